-- The buffers for the work on pages.
use Rattle.std.specs.Prelude.{◌≡◌}
use Rattle.page_format.specs.declared.work.Work.{Work}

-- the buffers beside that of the page last checked are as they were
pub record KeepsOthers (old new : Work) : Type 0 where
  pub left : new.left ≡ old.left
  pub right : new.right ≡ old.right
  pub spare : new.spare ≡ old.spare
