-- Windows of time. Window k holds the times from origin + k × slide up to, without, origin + (k + span) × slide.
-- With origin 0, slide 100 and span 2, time 150 lies in the windows 0 and 1.
use Rattle.std.specs.Prelude.{ℕ, ◌+◌, ◌-◌, ◌*◌, ◌/◌, ◌<◌, ◌≤◌}
use Rattle.semantics.specs.declared.setup.Setup.{Setup}

-- when window k begins
unfoldable pub window_start : {R : Type 0} → Setup R → ℕ → ℕ
window_start s k = s.origin + k * s.slide

-- the pane of a time: how many whole slides lie between the origin and it, none where it is before the origin
unfoldable pub pane : {R : Type 0} → Setup R → ℕ → ℕ
pane s time = (time - s.origin) / s.slide

-- when window k has ended
abbrev pub window_end : {R : Type 0} → Setup R → ℕ → ℕ
window_end s k = window_start s (k + s.span)

abbrev pub InWindow : {R : Type 0} → Setup R → ℕ → ℕ → Type 0
InWindow s k time = (window_start s k ≤ time) × (time < window_end s k)

-- with window f the first, the windows f to f + span - 1 are open
abbrev pub Open : {R : Type 0} → Setup R → ℕ → ℕ → Type 0
Open s f k = (f ≤ k) × (k < f + s.span)
