-- Devices that were made of an image: a crash leaves of them that image and no other.
use Rattle.std.proofs.Common.{◌≡◌, ℕ, refl, inl, inr}
use mathlib.Core.Path.{fun_ext}
use Rattle.nvm_model.specs.Word.{IsVersion}
use Rattle.devices.specs.State.{Image, Leaves, fresh}

-- a crash leaves of devices that were made of an image that image, and no other
pub fresh_leaves : (i : Image) → Leaves (fresh i) i
fresh_leaves i = record { words = λ l w. inl refl; blocks = λ b h. refl }

pub fresh_only : (i j : Image) → Leaves (fresh i) j → j ≡ i
fresh_only i j leaves = same (fun_ext (λ l. fun_ext (λ w. word l w (leaves.words l w)))) (fun_ext (λ b. leaves.blocks b refl))
  where
    word : (l w : ℕ) → IsVersion ((fresh i).nvm l w) (j.nvm l w) → j.nvm l w ≡ i.nvm l w
    word l w (inl e) = e
    word l w (inr none) = absurd none

    same : j.nvm ≡ i.nvm → j.ssd ≡ i.ssd → j ≡ i
    same p q = λ k. record { nvm = p k; ssd = q k }
