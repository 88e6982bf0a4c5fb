-- What the layers above see of a call of the tiers.
use Rattle.std.specs.Prelude.{◌≡◌, ℕ, IsTrue, Result, OnOk}
use Rattle.devices.specs.State.{State, Image, Leaves, current, fresh}
use Rattle.devices.specs.World.{Standing, Goes, Moments, now}
use Rattle.line_pages.specs.declared.stop.Stop.{Stop}
use Rattle.device_calls.specs.Stops.{StopCause}
use Rattle.store_model.specs.Layout.{Sizes, pages}
use Rattle.store_model.specs.Log.{Words}
use Rattle.store_model.specs.Append.{RecoversTo}
use Rattle.store_model.specs.Format.{Format}
use Rattle.store_model.specs.Recovered.{super_of, recovered, recovered_pages, lines_of, IsStore}
use Rattle.store_model.specs.StoreFacts.{IsWord}
use Rattle.tier_facts.specs.Data.{Data, current_in}
use Rattle.tier_facts.specs.Facts.{Aim, Held, aim_sizes}

-- the image is a store of this format and these sizes that recovers to these words
pub record IsStoreOf (format : Format) (g : Sizes) (kept : Words) (i : Image) : Type 0 where
  pub store : IsStore format i
  pub sizes : (super_of i).sizes ≡ g
  pub pages_are : recovered_pages format i ≡ lines_of (pages g) kept

-- the current words stay
pub record SameWords (old : Data) (a : Standing) (new : Data) (b : Standing) : Type 0 where
  pub words : (p l w : ℕ) → IsWord old.sizes p l w
      → current_in new.sizes new (current (now b)) p l w ≡ current_in old.sizes old (current (now a)) p l w

-- A call that keeps an aim. Whatever it answers, what every call of the devices keeps; and a stop has its cause. Where the
-- devices are told and what is asked holds of what one reads of them, what is promised holds of that again; and where it
-- holds of the devices themselves, that holds again, and at each moment each image recovers to the committed words.
pub record Keeping {T : Type 0} (A B : Aim → State → Type 0) (a b : Standing) (result : Result T Stop) : Type 0 where
  pub goes : Goes a b
  pub cause : StopCause a b result
  pub read : IsTrue a.told → (aim : Aim) → A aim (fresh (current (now a))) → OnOk result (B aim (fresh (current (now b))))
  pub steady : IsTrue a.told → (aim : Aim) → A aim (now a) → OnOk result (B aim (now b))
  pub read_held : IsTrue a.told → (aim : Aim) → A aim (fresh (current (now a))) → Moments a b (λ mid.
      (p l w : ℕ) → IsWord (super_of (current mid)).sizes p l w → recovered aim.format (current mid) p l w ≡ aim.kept p l w)
  pub held : IsTrue a.told → (aim : Aim) → A aim (now a) → Moments a b (Held aim)
  pub stores : IsTrue a.told → (aim : Aim) → A aim (now a) → Moments a b (λ s.
      (i : Image) → Leaves s i → IsStoreOf aim.format (aim_sizes aim) aim.kept i)
  pub recovers : IsTrue a.told → (aim : Aim) → A aim (now a) → Moments a b (λ s. RecoversTo aim.format s aim.kept)
