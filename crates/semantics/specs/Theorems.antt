-- What is proved of trends and results alone, for any kind and any rule.
use Rattle.std.specs.Prelude.{◌≡◌, ℕ, Bool, true, List, map, reverse, filter, Option}
use Rattle.events.specs.declared.event.Event.{Event}
use Rattle.grammar.specs.Trees.{In}
use Rattle.grammar.specs.Words.{Word}
use Rattle.pattern.specs.declared.template.Template.{Template}
use Rattle.pattern.specs.Compiled.{DecidesWords}
use Rattle.pattern.specs.Patterns.{tree}
use Rattle.rules.specs.Rules.{Rule}
use Rattle.weights.specs.Kinds.{Kind, CommutativeMonoid, Laws}
use Rattle.weights.specs.Maps.{Carries}
use Rattle.semantics.specs.declared.setup.Setup.{Setup}
use Rattle.semantics.specs.Histories.{History, accepted, first, kept}
use Rattle.semantics.specs.Core.{gathered, GoesBy, FilledBy}
use Rattle.semantics.specs.Laws.{ClockNotBehind, TimesNeverFall, BeforeTheEnd, TakenIntoFirst, KeptByTaking, KeptByDropping, KeptOtherwise, IdleChangesNothing, KindsAgree}
use Rattle.semantics.specs.Meaning.{Telling}
use Rattle.semantics.specs.Recursion.{shape_of, Valued, Filled, total, events_of}
use Rattle.semantics.specs.Trends.{Belongs, ResultIs, Listing, chosen, weight, joined}
use Rattle.semantics.specs.Windows.{Open}

-- of any events each window and lift has a result, and no second one
abbrev pub OneResult : {V R : Type 0} → Kind V → Rule R → Type 0
OneResult {V} {R} kind rule =
    (s : Setup R) (k g : ℕ) (events : List Event)
    → (v : V) × ResultIs kind rule s k g events v × ((w : V) → ResultIs kind rule s k g events w → w ≡ v)

-- what the recursion over predecessors comes to, by a template that decides the pattern's words, is the result
abbrev pub RecursionIsResult : {V R : Type 0} → Kind V → Rule R → Type 0
RecursionIsResult {V} {R} kind rule =
    (s : Setup R) (t : Template) → DecidesWords (tree s.pattern) t → (k g : ℕ) (row : List (Valued V)) → Filled kind rule s (shape_of t) k row
    → ResultIs kind rule s k g (reverse (events_of row)) (total kind rule s (shape_of t) k g row)

-- the test passes each event of the window and lift whose type stands in a word of the pattern
abbrev pub KeepsRelevant : {R : Type 0} → Rule R → Setup R → ℕ → ℕ → (Event → Bool) → Type 0
KeepsRelevant rule s k g keep = (e : Event) → Belongs rule s k g e → (w : List ℕ) → Word (tree s.pattern) w → In e.kind w → keep e ≡ true

-- the others may be dropped
abbrev pub IrrelevantDropped : {V R : Type 0} → Kind V → Rule R → Type 0
IrrelevantDropped {V} {R} kind rule =
    (s : Setup R) (k g : ℕ) (keep : Event → Bool) → KeepsRelevant rule s k g keep → (events : List Event) (v : V)
    → ResultIs kind rule s k g (filter keep events) v → ResultIs kind rule s k g events v

-- the kept events are enough for each open window: the recursion over them alone comes to the result of all accepted events
abbrev pub KeptSuffice : {V R : Type 0} → Kind V → Rule R → Type 0
KeptSuffice {V} {R} kind rule =
    (s : Setup R) (t : Template) → DecidesWords (tree s.pattern) t → (h : History V) (k g : ℕ) (row : List (Valued V))
    → Open s (first h) k → events_of row ≡ kept s h → Filled kind rule s (shape_of t) k row
    → ResultIs kind rule s k g (reverse (accepted h)) (total kind rule s (shape_of t) k g row)

-- a lawful map carries the results by one kind to those by another
abbrev pub ResultsCarried : {V W R : Type 0} → Kind V → Kind W → Rule R → Type 0
ResultsCarried {V} {W} {R} i j rule =
    (φ : V → W) → Carries i j φ → (s : Setup R) (k g : ℕ) (events : List Event) (v : V)
    → ResultIs i rule s k g events v → ResultIs j rule s k g events (φ v)

-- times of accepted events never fall, none is after the clock, and each was taken into the window then first
abbrev pub TimesInOrder : {V R : Type 0} → Kind V → Rule R → Type 0
TimesInOrder {V} {R} kind rule =
    (telling : Option (Telling V)) (s : Setup R)
    → ClockNotBehind kind telling rule s × TimesNeverFall kind telling rule s × BeforeTheEnd kind telling rule s × TakenIntoFirst kind telling rule s

-- the kept events change by accepted takes and closes alone
abbrev pub KeptAsDropped : {V R : Type 0} → Kind V → Rule R → Type 0
KeptAsDropped {V} {R} kind rule =
    (telling : Option (Telling V)) (s : Setup R)
    → KeptByTaking kind telling rule s × KeptByDropping kind telling rule s × KeptOtherwise V s × IdleChangesNothing V s

-- two histories of the same calls agree, for every map that carries one kind to the other
abbrev pub KindsAlwaysAgree : {V W R : Type 0} → Kind V → Kind W → Rule R → Type 0
KindsAlwaysAgree {V} {W} {R} j k rule = (t : Option (Telling V)) (u : Option (Telling W)) (s : Setup R) (φ : V → W) → KindsAgree j k t u rule s φ

-- the recursion comes to the join over every listing of the choices that start, go on and end well, whatever the tests are
abbrev pub CoreIsGeneral : {V : Type 0} → Kind V → Type 0
CoreIsGeneral {V} kind =
    Laws kind → (starts ends inside : Event → Bool) (may : Event → Event → Bool)
    → ((later earlier : Event) → may later earlier ≡ true → inside earlier ≡ true) → ((e : Event) → ends e ≡ true → inside e ≡ true)
    → (row : List (Valued V)) → FilledBy kind starts may inside row
    → (ts : List (List Bool)) → Listing (GoesBy starts ends may (reverse (events_of row))) ts
    → gathered kind ends row ≡ joined kind (map (λ marks. weight kind (chosen marks (reverse (events_of row)))) ts)

-- that two listings join to the same needs the laws of join alone
abbrev pub JoinLawsSuffice : {V : Type 0} → Kind V → Type 0
JoinLawsSuffice {V} kind =
    CommutativeMonoid kind.zero kind.join → (test : List Bool → Bool) (value : List Bool → V) (ts us : List (List Bool))
    → Listing (λ marks. test marks ≡ true) ts → Listing (λ marks. test marks ≡ true) us → joined kind (map value ts) ≡ joined kind (map value us)
