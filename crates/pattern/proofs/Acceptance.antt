-- Reading accepts a text as a pattern if, and only if, the tokens of the text write the pattern within the limits.
use Rattle.std.proofs.Common.{ℕ, ◌≤◌, List, [], ◌∷◌, ◌++◌, sym, subst, ⊎_elim, append_assoc, append-nil, arith}
use Rattle.grammar.specs.declared.Symbol.{Symbol}
use Rattle.grammar.specs.declared.Symbol.TheVariants.{Name, Seq, Open, Close, Comma, Plus}
use Rattle.grammar.specs.Trees.{part, Tree, In, here, there, Distinct}
use Rattle.grammar.specs.Grammar.{Writes}
use Rattle.grammar.specs.Limits.{deepest, named}
use Rattle.grammar.proofs.Depths.{opened_below, deepest_more}
use Rattle.grammar.proofs.Derivations.{names_among_append}
use Rattle.grammar.proofs.Paths.{apart}
use Rattle.pattern.specs.Accepting.{Spell, nothing, token, Accepts}
use Rattle.pattern.specs.Patterns.{Exactly}
use Rattle.pattern.specs.Reading.{Stretch, Fresh, Passes, Outcome, accepted, LeadsTo, whole, next, Reads, by_stretches}
use Rattle.pattern.proofs.OneOutcome.{one_outcome}
use Rattle.pattern.proofs.Stepping.{in_either, only_one}

-- A name is fresh at its token if it stands nowhere else.

fresh_before : (xs : List Symbol) (x : Symbol) (ys : List Symbol) → Distinct (named (xs ++ x ∷ ys)) → Fresh xs x
fresh_before xs (Name k) ys d = λ i. apart (k ∷ named ys) i (subst Distinct (names_among_append xs (Name k ∷ ys)) d) here
fresh_before xs Seq ys d = tt
fresh_before xs Open ys d = tt
fresh_before xs Close ys d = tt
fresh_before xs Comma ys d = tt
fresh_before xs Plus ys d = tt

distinct_push : {X : Type 0} (xs : List X) (x : X) → Distinct xs → (In x xs → ⊥) → Distinct (xs ++ x ∷ [])
distinct_push [] x d new = (λ i. elim i [ ], tt)
distinct_push (y ∷ xs) x d new =
    (λ i. ⊎_elim d.0 (λ j. new (subst (λ z. In z (y ∷ xs)) (sym (only_one j)) here)) (in_either xs (x ∷ []) i), distinct_push xs x d.1 (λ i. new (there i)))

fresh_distinct : (xs : List Symbol) (x : Symbol) → Distinct (named xs) → Fresh xs x → Distinct (named (xs ++ x ∷ []))
fresh_distinct xs (Name k) d new = simp names_among_append (distinct_push (named xs) k d new)
fresh_distinct xs Seq d new = simp (names_among_append, append-nil) d
fresh_distinct xs Open d new = simp (names_among_append, append-nil) d
fresh_distinct xs Close d new = simp (names_among_append, append-nil) d
fresh_distinct xs Comma d new = simp (names_among_append, append-nil) d
fresh_distinct xs Plus d new = simp (names_among_append, append-nil) d

-- After the tokens xs, the stretches that are left are tokens, and all of them together are accepted.

abbrev Fits : Tree part → List Symbol → Type 0
Fits t xs = Writes xs t × (deepest 0 xs ≤ 16) × Distinct (named xs)

fits_leads : {n : ℕ} {t : Tree part} {ss : List Stretch} {ys : List Symbol} → Spell ss ys → (xs : List Symbol) → Fits t (xs ++ ys) → LeadsTo n xs ss (accepted t)
fits_leads {t = t} nothing xs fits = whole (subst (λ zs. Writes zs t) (append-nil xs) fits.0)
fits_leads {t = t} (token {x = x} {xs = ys} known spell) xs fits =
    let on : Fits t ((xs ++ x ∷ []) ++ ys) = subst (Fits t) (sym (append_assoc xs (x ∷ []) ys)) fits in
    let passes : Passes xs _ x = record {
      known = known;
      begins = (ys, t, on.0);
      shallow = omega (arith, on.1, opened_below 0 (xs ++ x ∷ []) ys);
      fresh = fresh_before xs x ys fits.2;
    } in
    next x passes (fits_leads spell (xs ++ x ∷ []) on)

leads_fits : {n : ℕ} {xs : List Symbol} {ss : List Stretch} {t : Tree part} → LeadsTo n xs ss (accepted t) → deepest 0 xs ≤ 16 → Distinct (named xs) → (ys : List Symbol) × Spell ss ys × Fits t (xs ++ ys)
leads_fits (whole {xs = xs} {t = t} w) shallow once = ([], nothing, subst (Fits t) (sym (append-nil xs)) (w, shallow, once))
leads_fits {t = t} (next {xs = xs} x passes on) shallow once =
    let more = leads_fits on (deepest_more 16 0 xs x shallow passes.shallow) (fresh_distinct xs x once passes.fresh) in
    (x ∷ more.0, token passes.known more.1, subst (Fits t) (append_assoc xs (x ∷ []) more.0) more.2)

pub accepts_reads : (text : List ℕ) (t : Tree part) → Accepts text t → Reads text (accepted t)
accepts_reads text t a = by_stretches a.some a.short a.cut (fits_leads a.spell [] (a.writes, a.shallow, a.once))

pub reads_accepts : (text : List ℕ) (t : Tree part) → Reads text (accepted t) → Accepts text t
reads_accepts text t (by_stretches {ss = ss} some short cut leads) =
    let (xs, spell, fits) = leads_fits leads (omega arith) tt in
    record { stretches = ss; tokens = xs; some = some; short = short; cut = cut; spell = spell; writes = fits.0; shallow = fits.1; once = fits.2 }

-- the outcome that a text reads to says whether it is accepted
pub exactly : (text : List ℕ) (o : Outcome) → Reads text o → Exactly text o
exactly text o r t = (λ e. reads_accepts text t (subst (Reads text) e r), λ a. one_outcome text o (accepted t) r (accepts_reads text t a))
