-- The records at each place: no two stand at the front of the same bytes, and one that stands there passes every question.
use Rattle.std.proofs.Common.{◌≡◌, ℕ, ◌≤◌, cond, eqb, ◌⊎◌, List, [], ◌∷◌, ◌++◌, map, Some, length, get_or, sym, refl, ap, ◌∙◌, subst, inl, inr, arith}
use Rattle.std.proofs.Math.Bridge.{le_prop}
use Rattle.reading.specs.declared.read.Front.{Front}
use Rattle.records.specs.declared.record.Header.{Header}
use Rattle.records.specs.declared.record.Input.{Input}
use Rattle.records.specs.declared.record.Input.TheVariants as input
use Rattle.records.specs.declared.record.KindNumber.{KindNumber}
use Rattle.records.specs.declared.record.KindNumber.TheVariants.{Count, Least, LeastWays, Most}
use Rattle.records.specs.declared.record.Output.{Output}
use Rattle.records.specs.declared.record.Output.TheVariants as output
use Rattle.records.specs.declared.record.RuleSetting.{RuleSetting}
use Rattle.records.specs.declared.record.RuleSetting.TheVariants.{Falling, Near}
use Rattle.records.specs.Fields.{row, Fit, Begins}
use Rattle.records.specs.Formats.{mark_hd, mark_ev, mark_tk, mark_rs, mark_ft, kind_number, rule_number, gap_fields, input_fields, output_fields}
use Rattle.reading.specs.Raw.{front_fields}
use Rattle.reading.specs.Reading.{ask_either, ask_header, HeaderAt, InputAt, OutputAt, Answer, ReadsHeader, ReadsInput, ReadsOutput, SameHeader, Exact}
use Rattle.reading.proofs.Apart.{row_same, stretch_same}
use Rattle.reading.proofs.Places.{placed, kind_range}
use Rattle.reading.proofs.Unique.{Yes, exact}

-- the records by their numbers, from the mark on
abbrev InRange : List ℕ → Type 0
InRange ns = (get_or ns 1 0 ≤ 4294967295) × (get_or ns 2 0 ≤ 65535) × (get_or ns 3 0 ≤ 255) × (get_or ns 4 0 ≤ 65535) × (get_or ns 5 0 ≤ 4294967295)

abbrev event_of : (ns : List ℕ) → InRange ns → Input
event_of ns r = input.Event (record { time = get_or ns 1 0; lift = get_or ns 2 0; kind = get_or ns 3 0; level = get_or ns 4 0; load = get_or ns 5 0; ranges = r })

-- that numbers are in range has one proof at most
event_same : (ns ms : List ℕ) (r : InRange ns) (s : InRange ms) → ns ≡ ms → event_of ns r ≡ event_of ms s
event_same ns ms r s e = subst (λ ks. (s : InRange ks) → event_of ns r ≡ event_of ks s) e (λ s. ap (event_of ns) (λ i. (le_prop r.0 s.0 i, le_prop r.1 s.1 i, le_prop r.2 s.2 i, le_prop r.3 s.3 i, le_prop r.4 s.4 i))) s

abbrev tick_of : List ℕ → Input
tick_of ns = input.Tick (record { time = get_or ns 1 0 })

abbrev result_of : List ℕ → Output
result_of ns = output.Result (record { kind = get_or ns 1 0; window = get_or ns 2 0; lift = get_or ns 3 0; first = get_or ns 4 0; second = get_or ns 5 0 })

abbrev fault_of : List ℕ → Output
fault_of ns = output.Fault (record { number = get_or ns 1 0; place = get_or ns 2 0 })

fit_parts : (fs gs : List (ℕ × ℕ)) → Fit (fs ++ gs) → Fit fs × Fit gs
fit_parts [] gs a = (tt, a)
fit_parts (f ∷ fs) gs a = let i = fit_parts fs gs a.1 in ((a.0, i.0), i.1)

kind_at : ℕ → KindNumber
kind_at n = cond (eqb n 1) Count (cond (eqb n 2) Least (cond (eqb n 3) LeastWays Most))

kind_back : (k : KindNumber) → kind_at (kind_number k) ≡ k
unfolding kind_at
kind_back Count = refl
kind_back Least = refl
kind_back LeastWays = refl
kind_back Most = refl

rule_range : (s : RuleSetting) → (rule_number s ≡ 1) ⊎ (rule_number s ≡ 2)
rule_range Falling = inl refl
rule_range (Near gap) = inr refl

-- a header's fields up to the rule, and from there on
abbrev front_of : Header → Front
front_of h = record { origin = h.origin; slide = h.slide; n = h.n; kind = kind_number h.kind; rule = rule_number h.rule }

abbrev tail : RuleSetting → List ℕ → List (ℕ × ℕ)
tail a t = gap_fields a ++ ((1, length t) ∷ [])

tail_same : (a b : RuleSetting) (t u r s : List ℕ) → rule_number a ≡ rule_number b → Fit (tail a t) → Fit (tail b u) → row (tail a t) ++ (t ++ r) ≡ row (tail b u) ++ (u ++ s) → (a ≡ b) × (t ≡ u) × (r ≡ s)
tail_same Falling Falling t u r s n f g e =
    let z = row_same (tail Falling t) (tail Falling u) (t ++ r) (u ++ s) refl f g e in
    let w = stretch_same t u r s (cc z.0) z.1 in
    (refl, w.0, w.1)
tail_same Falling (Near gap) t u r s n f g e = absurd (omega arith)
tail_same (Near gap) Falling t u r s n f g e = absurd (omega arith)
tail_same (Near gap) (Near gap') t u r s n f g e =
    let z = row_same (tail (Near gap) t) (tail (Near gap') u) (t ++ r) (u ++ s) refl f g e in
    let w = stretch_same t u r s (cc z.0) z.1 in
    (cc z.0, w.0, w.1)

module _ (bs : List ℕ) where
  -- two rows of fields at the front, and what is made of their numbers
  made_same : {X : Type 0} (make : List ℕ → X) (fs gs : List (ℕ × ℕ)) (r s : List ℕ) → map (λ f. f.0) fs ≡ map (λ f. f.0) gs → Begins fs bs r → Begins gs bs s → (make (map (λ f. f.1) fs) ≡ make (map (λ f. f.1) gs)) × (r ≡ s)
  made_same make fs gs r s w h k =
      let z = row_same fs gs r s w h.fit k.fit (sym h.bytes ∙ k.bytes) in
      (ap make z.0, z.1)

  pub input_same : (x y : Input) (r s : List ℕ) → InputAt bs x r → InputAt bs y s → (x ≡ y) × (r ≡ s)
  input_same (input.Event d) (input.Event e) r s h k =
      let fs = input_fields (input.Event d) in
      let gs = input_fields (input.Event e) in
      let z = row_same fs gs r s refl h.fit k.fit (sym h.bytes ∙ k.bytes) in
      (event_same (map (λ f. f.1) fs) (map (λ f. f.1) gs) d.ranges e.ranges z.0, z.1)
  input_same (input.Event d) (input.Tick u) r s h k = let z : ◌≡◌ {A = ℕ} 69 84 = cc in absurd (omega arith)
  input_same (input.Tick t) (input.Event e) r s h k = let z : ◌≡◌ {A = ℕ} 84 69 = cc in absurd (omega arith)
  input_same (input.Tick t) (input.Tick u) r s h k = made_same tick_of (input_fields (input.Tick t)) (input_fields (input.Tick u)) r s refl h k

  pub output_same : (x y : Output) (r s : List ℕ) → OutputAt bs x r → OutputAt bs y s → (x ≡ y) × (r ≡ s)
  output_same (output.Result d) (output.Result e) r s h k = made_same result_of (output_fields (output.Result d)) (output_fields (output.Result e)) r s refl h k
  output_same (output.Result d) (output.Fault u) r s h k = let z : ◌≡◌ {A = ℕ} 82 70 = cc in absurd (omega arith)
  output_same (output.Fault t) (output.Result e) r s h k = let z : ◌≡◌ {A = ℕ} 70 82 = cc in absurd (omega arith)
  output_same (output.Fault t) (output.Fault u) r s h k = made_same fault_of (output_fields (output.Fault t)) (output_fields (output.Fault u)) r s refl h k

  pub header_same : (x y : Header) (r s : List ℕ) → HeaderAt bs x r → HeaderAt bs y s → SameHeader x y × (r ≡ s)
  header_same x y r s h k =
      let fs = (2, mark_hd) ∷ front_fields (front_of x) in
      let gs = (2, mark_hd) ∷ front_fields (front_of y) in
      let f = fit_parts fs (tail x.rule x.text.now) h.fit in
      let g = fit_parts gs (tail y.rule y.text.now) k.fit in
      let p = row_same fs gs (row (tail x.rule x.text.now) ++ (x.text.now ++ r)) (row (tail y.rule y.text.now) ++ (y.text.now ++ s)) refl f.0 g.0 (sym h.bytes ∙ k.bytes) in
      let q = tail_same x.rule y.rule x.text.now y.text.now r s (cc p.0) f.1 g.1 p.1 in
      let kinds : kind_number x.kind ≡ kind_number y.kind = cc p.0 in
      ((cc p.0, cc p.0, cc p.0, sym (kind_back x.kind) ∙ ap kind_at kinds ∙ kind_back y.kind, q.0, q.1), q.2)

  pub input_yes : (x : Input) (r : List ℕ) → InputAt bs x r → Yes (ask_either mark_ev 15 mark_tk 6 bs)
  input_yes (input.Event e) r h = subst (λ xs. Yes (ask_either mark_ev 15 mark_tk 6 xs)) (sym h.bytes) (record { two = omega arith; mark = inl refl; whole = omega arith; kind = tt; rule = tt })
  input_yes (input.Tick t) r h = subst (λ xs. Yes (ask_either mark_ev 15 mark_tk 6 xs)) (sym h.bytes) (record { two = omega arith; mark = inr refl; whole = omega arith; kind = tt; rule = tt })

  pub output_yes : (x : Output) (r : List ℕ) → OutputAt bs x r → Yes (ask_either mark_rs 17 mark_ft 7 bs)
  output_yes (output.Result d) r h = subst (λ xs. Yes (ask_either mark_rs 17 mark_ft 7 xs)) (sym h.bytes) (record { two = omega arith; mark = inl refl; whole = omega arith; kind = tt; rule = tt })
  output_yes (output.Fault f) r h = subst (λ xs. Yes (ask_either mark_rs 17 mark_ft 7 xs)) (sym h.bytes) (record { two = omega arith; mark = inr refl; whole = omega arith; kind = tt; rule = tt })

  pub header_yes : (x : Header) (r : List ℕ) → HeaderAt bs x r → Yes (ask_header bs)
  header_yes x r h =
      let p = placed (front_of x) x.text.now r bs (Some x.rule) refl h in
      record { two = p.two; mark = p.mark; whole = p.whole; kind = rw p.kind (kind_range x.kind); rule = rw p.rule (rule_range x.rule) }

  pub header_exact : (place : ℕ) (a : Answer Header) → ReadsHeader bs place a → Exact SameHeader (HeaderAt bs) a
  header_exact = exact SameHeader (HeaderAt bs) (ask_header bs) header_same header_yes

  pub input_exact : (place : ℕ) (a : Answer Input) → ReadsInput bs place a → Exact ◌≡◌ (InputAt bs) a
  input_exact = exact ◌≡◌ (InputAt bs) (ask_either mark_ev 15 mark_tk 6 bs) input_same input_yes

  pub output_exact : (place : ℕ) (a : Answer Output) → ReadsOutput bs place a → Exact ◌≡◌ (OutputAt bs) a
  output_exact = exact ◌≡◌ (OutputAt bs) (ask_either mark_rs 17 mark_ft 7 bs) output_same output_yes
