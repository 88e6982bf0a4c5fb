-- The law of a world that tells nothing of what was sent.
use Rattle.std.specs.Prelude.{◌≡◌, ℕ, [], refl}
use Rattle.devices.specs.World.{sent_by, IsTimed}
use Rattle.device_files.specs.declared.counts.CallCounts.{CallCounts}
use Rattle.device_files.specs.FileWorld.{standing_of}

-- where no change is known, nothing was sent by any moment
pub sent_by-none : (m : ℕ) → sent_by [] m ≡ []
unfolding sent_by
sent_by-none m = refl

pub timed_of : (counts : CallCounts) → IsTimed (standing_of counts)
unfolding sent_by
timed_of counts m later = refl
