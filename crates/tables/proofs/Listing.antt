-- The log defined of plan A and its ends is the listing, byte for byte.
use mathlib.Core.Path.{◌≡◌, refl}
use Rattle.log_run.specs.Log.{log_of}
use Rattle.tables.specs.PlanA.{text_a}
use Rattle.tables.specs.Listing.{ends_a, log_a, ends_drop, log_drop}
use Rattle.tables.proofs.Computing.{computing}

pub listing : log_of text_a ends_a ≡ log_a
unfolding computing
listing = refl

-- and with drops among the ends
pub listing-drop : log_of text_a ends_drop ≡ log_drop
unfolding computing
listing-drop = refl
