-- The marked examples, as one list: calls, the oldest first, with the answers that the definitions give them.
-- Falling levels 50, 40, 45 at times 10, 20, 30 have five trends under BATT+, so the Count of window 0 and lift 7 is 5.
use Rattle.std.specs.Prelude.{◌≡◌, ℕ, ◌≤◌, min, List, [], ◌∷◌, reverse, Some, None, Ok, Err}
use Rattle.std.proofs.Math.Nat.{min-le_right}
use Rattle.std.proofs.Common.{lit≤}
use Rattle.events.specs.declared.event.Event.{Event}
use Rattle.events.specs.declared.EventType.{EventType}
use Rattle.events.specs.declared.EventType.TheVariants.{Miss, Drop, Batt}
use Rattle.events.specs.Types.{code_of}
use Rattle.grammar.specs.Trees.{part, Tree, name, plus, seq, two}
use Rattle.pattern.specs.declared.pattern.Pattern.{Pattern}
use Rattle.pattern.specs.Patterns.{tree}
use Rattle.rules.specs.declared.Falling.{Falling}
use Rattle.rules.specs.declared.Near.{Near}
use Rattle.rules.specs.Given.{falling, near}
use Rattle.rules.specs.Rules.{Rule}
use Rattle.weights.specs.declared.values.Count.{Count}
use Rattle.weights.specs.declared.values.Least.{Least}
use Rattle.weights.specs.declared.values.LeastWays.{LeastWays}
use Rattle.weights.specs.declared.values.Most.{Most}
use Rattle.weights.specs.Caps.{top, capped}
use Rattle.weights.specs.Count.{count_of, count_kind}
use Rattle.weights.specs.Kinds.{Kind}
use Rattle.weights.specs.Least.{least_of, least_kind}
use Rattle.weights.specs.LeastWays.{least_ways_of, least_ways_kind}
use Rattle.weights.specs.Most.{most_of, most_kind, most_report}
use Rattle.semantics.specs.declared.refusal.CallRefusal.TheVariants.{Late, Window}
use Rattle.semantics.specs.declared.refusal.Taken.TheVariants.{Kept}
use Rattle.semantics.specs.declared.setup.Setup.{Setup}
use Rattle.semantics.specs.Histories.{Entry, take, tick, result, close}
use Rattle.semantics.specs.Meaning.{Defined}

-- the kinds by name, with their values
pub data KindName : Type 0 where
  count least least_ways most : KindName

abbrev pub Value : KindName → Type 0
Value count = Count
Value least = Least
Value least_ways = LeastWays
Value most = Most

abbrev pub kind_of : (k : KindName) → Kind (Value k)
kind_of count = count_kind
kind_of least = least_kind
kind_of least_ways = least_ways_kind
kind_of most = most_kind

-- the rules by name: Falling, and Near with a gap
pub data RuleName : Type 0 where
  falls : RuleName
  gap : ℕ → RuleName

abbrev pub Settings : RuleName → Type 0
Settings falls = Falling
Settings (gap n) = Near

abbrev pub settings_of : (r : RuleName) → Settings r
settings_of falls = record {}
settings_of (gap n) = record { gap = n }

abbrev pub rule_of : (r : RuleName) → Rule (Settings r)
rule_of falls = falling
rule_of (gap n) = near

pub record Example : Type 0 where
  pub pattern : Tree part
  pub kind : KindName
  pub rule : RuleName
  pub span : ℕ
  pub spans : (1 ≤ span) × (span ≤ 8)
  pub calls : List (Entry (Value kind))

-- origin 0, slide 100, capacity 256
abbrev pub setup : (x : Example) → Pattern → Setup (Settings x.rule)
setup x p = record {
  pattern = p;
  rule = settings_of x.rule;
  capacity = 256;
  origin = 0;
  slide = 100;
  span = x.span;
  ranges = (lit≤ tt, lit≤ tt, lit≤ tt, x.spans.0, x.spans.1);
  places = (lit≤ tt, lit≤ tt);
}

-- some pattern has the example's tree, and by every one that has it each answer is the one defined
pub record AsDefined (x : Example) : Type 0 where
  pub pattern : (p : Pattern) × (tree p ≡ x.pattern)
  pub answers : (p : Pattern) → tree p ≡ x.pattern → Defined (kind_of x.kind) None (rule_of x.rule) (setup x p) (reverse x.calls)

-- an event of lift 7; a number too large for its field would be cut
abbrev pub event : EventType → (time level load : ℕ) → Event
event type time level load = record {
  time = capped time;
  lift = 7;
  kind = min (code_of type) 255;
  level = min level 65535;
  load = capped load;
  ranges = (min-le_right time top, lit≤ tt, min-le_right (code_of type) 255, min-le_right level 65535, min-le_right load top);
}

module _ {V : Type 0} where
  -- taken and kept: a BATT
  abbrev pub batt : (time : ℕ) → Entry V
  batt time = take (event Batt time 0 1) (Ok Kept)

  -- a BATT of this level
  abbrev pub level : (time tenths : ℕ) → Entry V
  level time tenths = take (event Batt time tenths 1) (Ok Kept)

  -- a DROP or a MISS of this load
  abbrev pub drop : (time load : ℕ) → Entry V
  drop time load = take (event Drop time 0 load) (Ok Kept)

  abbrev pub miss : (time load : ℕ) → Entry V
  miss time load = take (event Miss time 0 load) (Ok Kept)

  -- the result of a window and lift 7
  abbrev pub window : ℕ → V → Entry V
  window k v = result k 7 (Ok v)

  -- the clock is set, and the first open window closed
  abbrev pub ticked : (time : ℕ) → Entry V
  ticked time = tick time (Ok tt)

  abbrev pub closed : Entry V
  closed = close (Ok tt)

-- with a gap of T
abbrev pub loose : RuleName
loose = gap top

-- by windows of one slide
abbrev pub one_slide : Tree part → (k : KindName) → RuleName → List (Entry (Value k)) → Example
one_slide t k r calls = record { pattern = t; kind = k; rule = r; span = 1; spans = (lit≤ tt, lit≤ tt); calls = calls }

-- by windows of two
abbrev pub two_slides : Tree part → (k : KindName) → RuleName → List (Entry (Value k)) → Example
two_slides t k r calls = record { pattern = t; kind = k; rule = r; span = 2; spans = (lit≤ tt, lit≤ tt); calls = calls }

-- BATT+
abbrev pub batts : Tree part
batts = plus (name Batt)

-- SEQ(DROP,MISS)
abbrev pub drop_miss : Tree part
drop_miss = seq (two (name Drop) (name Miss))

-- SEQ(DROP,MISS+)+
abbrev pub drop_misses : Tree part
drop_misses = plus (seq (two (name Drop) (plus (name Miss))))

abbrev pub examples : List Example
examples =
    -- 1. No event: no trend, for LeastWays T in no ways, for Most nothing, which tells 0 and 0.
    one_slide batts count falls (window 0 (count_of 0) ∷ [])
    ∷ one_slide batts least_ways falls (window 0 (least_ways_of top 0) ∷ [])
    ∷ one_slide batts most falls (window 0 (most_of None) ∷ [])
    -- 2. Falling levels: each reading alone, 50 40, and 50 45.
    ∷ one_slide batts count falls (level 10 50 ∷ level 20 40 ∷ level 30 45 ∷ window 0 (count_of 5) ∷ [])
    ∷ one_slide batts most falls (level 10 50 ∷ level 20 40 ∷ level 30 45 ∷ window 0 (most_of (Some 2)) ∷ [])
    ∷ one_slide batts least_ways falls (level 10 50 ∷ level 20 40 ∷ level 30 45 ∷ window 0 (least_ways_of 1 3) ∷ [])
    -- 3. A level equal to the one before has not fallen.
    ∷ one_slide batts count falls (level 10 50 ∷ level 20 40 ∷ level 30 45 ∷ level 40 45 ∷ window 0 (count_of 7) ∷ [])
    -- 4. Of two events at one time neither follows the other.
    ∷ one_slide batts count loose (batt 10 ∷ batt 10 ∷ batt 20 ∷ window 0 (count_of 5) ∷ [])
    -- 5. A gap of 10 and one of 9.
    ∷ one_slide batts count (gap 10) (batt 10 ∷ batt 20 ∷ batt 31 ∷ window 0 (count_of 4) ∷ [])
    ∷ one_slide batts count (gap 9) (batt 10 ∷ batt 20 ∷ batt 31 ∷ window 0 (count_of 3) ∷ [])
    -- 6. A SEQ repeated.
    ∷ one_slide drop_misses count loose (drop 1 1 ∷ miss 2 1 ∷ drop 3 1 ∷ miss 4 1 ∷ window 0 (count_of 5) ∷ [])
    -- 7. The least load in two ways and in one.
    ∷ one_slide drop_miss least_ways loose (drop 1 5 ∷ drop 2 5 ∷ miss 3 2 ∷ window 0 (least_ways_of 7 2) ∷ [])
    ∷ one_slide drop_miss least_ways loose (drop 1 4 ∷ drop 2 5 ∷ miss 3 2 ∷ window 0 (least_ways_of 6 1) ∷ [])
    -- 8. Loads that come to T: Least tells no trend, Most tells T and 1.
    ∷ one_slide drop_miss count loose (drop 1 4294967294 ∷ miss 2 1 ∷ window 0 (count_of 1) ∷ [])
    ∷ one_slide drop_miss least loose (drop 1 4294967294 ∷ miss 2 1 ∷ window 0 (least_of top) ∷ [])
    ∷ one_slide drop_miss most loose (drop 1 4294967294 ∷ miss 2 1 ∷ window 0 (most_of (Some top)) ∷ [])
    -- 9. Windows of two slides.
    ∷ two_slides batts count loose
    (batt 50 ∷ batt 150 ∷ window 0 (count_of 3) ∷ window 1 (count_of 1)
    ∷ ticked 200 ∷ closed ∷ batt 250 ∷ window 1 (count_of 3) ∷ window 2 (count_of 1) ∷ [])
    -- 10. The end of a window is not in it: refused 25 (Late), and when the window is closed, asking for it is refused 27 (Window).
    ∷ one_slide batts count loose
    (batt 99 ∷ window 0 (count_of 1) ∷ take (event Batt 100 0 1) (Err Late)
    ∷ ticked 100 ∷ closed ∷ batt 100 ∷ window 1 (count_of 1) ∷ result 0 7 (Err Window) ∷ [])
    ∷ []

-- a report tells Most's results in the first and the eighth example so: of nothing 0 and 0, of T itself and 1
abbrev pub MostTells : Type 0
MostTells = (most_report.tells (most_of None) ≡ record { first = 0; second = 0 }) × (most_report.tells (most_of (Some top)) ≡ record { first = top; second = 1 })
