-- Words of the promises: an order of time in which a timetable is told to the dispatcher.
use Rattle.std.specs.Prelude.{◌≡◌, ◌≢◌, ◌↔◌, ℕ, ◌≤◌, ◌<◌}
use mathlib.Core.List.{List, [], ◌∷◌, Memᴰ}
use Rattle.theory.specs.Words.Events.{Event, Once}

-- the tick of a report
abbrev pub tick_of : Event → ℕ
tick_of (Event.ends task tick) = tick
tick_of (Event.drops task) = 0

-- none is before one that stands further left; equal ticks may stand in any order
abbrev pub InTime : List Event → Type 0
InTime [] = Unit
InTime (event ∷ later) = ((other : Event) → Memᴰ other later → tick_of event ≤ tick_of other) × InTime later

-- the drops in any order, each once, and then the ends of the tasks that are not dropped, each once, in order of time;
-- `name` is what the events call task i
pub record Order (tasks : ℕ) (name : ℕ → ℕ) (dropped end : ℕ → ℕ) (drops ends : List Event) : Type 0 where
  pub the_drops :
      (event : Event) → Memᴰ event drops ↔ ((i : ℕ) × (i < tasks) × (dropped i ≡ 1) × (event ≡ Event.drops (name i)))
  pub drops_once : Once drops
  pub the_ends :
      (event : Event) → Memᴰ event ends ↔ ((i : ℕ) × (i < tasks) × (dropped i ≢ 1) × (event ≡ Event.ends (name i) (end i)))
  pub ends_once : Once ends
  pub in_time : InTime ends
