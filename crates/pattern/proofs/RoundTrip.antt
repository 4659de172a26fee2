-- A valid pattern's written text is read as that pattern.
use Rattle.std.proofs.Common.{◌≡◌, ℕ, ◌+◌, ◌≤◌, List, [], ◌∷◌, ◌++◌, length, sym, refl, subst, append-nil, add-one, arith, length-append}
use Rattle.events.specs.declared.EventType.{EventType}
use Rattle.events.specs.declared.EventType.TheVariants.{Test, Miss, Drop, Back, Batt, Mains, Call, Talk, Done, Visit}
use Rattle.events.specs.Types.{name_of}
use Rattle.grammar.specs.declared.Symbol.{Symbol}
use Rattle.grammar.specs.declared.Symbol.TheVariants.{Name, Seq, Open, Close, Comma, Plus}
use Rattle.grammar.specs.Trees.{Level, part, Tree, name, plus, seq, Distinct}
use Rattle.grammar.specs.Grammar.{Role, Derives, named, bracketed, in_order, plain, repeated, first_two, one_more}
use Rattle.grammar.specs.Texts.{spelled, spelling, tokens, written}
use Rattle.grammar.specs.Limits.{Valid}
use Rattle.grammar.proofs.Derivations.{spelling_append, same_names, tokens_derive}
use Rattle.pattern.specs.Accepting.{Spell, nothing, token}
use Rattle.pattern.specs.Reading.{Letter, Letters, OtherFirst, Stretch, at, Cut, end, single, accepted, Reads}
use Rattle.pattern.proofs.Acceptance.{accepts_reads}
use Rattle.pattern.proofs.Cutting.{run_of, name_long}

name_letters : (k : EventType) → Letters (name_of k)
name_letters Test = omega arith
name_letters Miss = omega arith
name_letters Drop = omega arith
name_letters Back = omega arith
name_letters Batt = omega arith
name_letters Mains = omega arith
name_letters Call = omega arith
name_letters Talk = omega arith
name_letters Done = omega arith
name_letters Visit = omega arith

-- No two words stand next to each other.

abbrev Sign : Symbol → Type 0
Sign (Name k) = ⊥
Sign Seq = ⊥
Sign Open = Unit {0}
Sign Close = Unit {0}
Sign Comma = Unit {0}
Sign Plus = Unit {0}

abbrev SignFirst : List Symbol → Type 0
SignFirst [] = Unit {0}
SignFirst (x ∷ xs) = Sign x

-- a sign follows each word, unless nothing does
abbrev Apart : List Symbol → Type 0
Apart [] = Unit {0}
Apart (Name k ∷ xs) = SignFirst xs × Apart xs
Apart (Seq ∷ xs) = SignFirst xs × Apart xs
Apart (Open ∷ xs) = Apart xs
Apart (Close ∷ xs) = Apart xs
Apart (Comma ∷ xs) = Apart xs
Apart (Plus ∷ xs) = Apart xs

sign_first_join : (xs : List Symbol) (x : Symbol) (ys : List Symbol) → Sign x → SignFirst xs → SignFirst (xs ++ x ∷ ys)
sign_first_join [] x ys s h = s
sign_first_join (y ∷ xs) x ys s h = h

-- joined by a sign
apart_join : (xs : List Symbol) (x : Symbol) (ys : List Symbol) → Sign x → Apart xs → Apart (x ∷ ys) → Apart (xs ++ x ∷ ys)
apart_join [] x ys s a b = b
apart_join (Name k ∷ xs) x ys s a b = (sign_first_join xs x ys s a.0, apart_join xs x ys s a.1 b)
apart_join (Seq ∷ xs) x ys s a b = (sign_first_join xs x ys s a.0, apart_join xs x ys s a.1 b)
apart_join (Open ∷ xs) x ys s a b = apart_join xs x ys s a b
apart_join (Close ∷ xs) x ys s a b = apart_join xs x ys s a b
apart_join (Comma ∷ xs) x ys s a b = apart_join xs x ys s a b
apart_join (Plus ∷ xs) x ys s a b = apart_join xs x ys s a b

derived_apart : {r : Role} {l : Level} {t : Tree l} {xs : List Symbol} → Derives r l t xs → Apart xs
derived_apart (named k) = (tt, tt)
derived_apart (bracketed {xs = xs} d) = apart_join xs Close [] tt (derived_apart d) tt
derived_apart (in_order {xs = xs} d) = (tt, apart_join xs Close [] tt (derived_apart d) tt)
derived_apart (plain d) = derived_apart d
derived_apart (repeated {xs = xs} d) = apart_join xs Plus [] tt (derived_apart d) tt
derived_apart (first_two {xs = xs} {ys = ys} d e) = apart_join xs Comma ys tt (derived_apart d) (derived_apart e)
derived_apart (one_more {xs = xs} {ys = ys} d e) = apart_join xs Comma ys tt (derived_apart d) (derived_apart e)

-- The text of such tokens is cut into them.

-- each token's bytes at their place
abbrev placed : ℕ → List Symbol → List Stretch
placed p [] = []
placed p (x ∷ xs) = at p (spelled x) ∷ placed (p + length (spelled x)) xs

placed_spell : (p : ℕ) (xs : List Symbol) → Spell (placed p xs) xs
placed_spell p [] = nothing
placed_spell p (x ∷ xs) = token refl (placed_spell (p + length (spelled x)) xs)

sign_other : (xs : List Symbol) → SignFirst xs → OtherFirst (spelling xs)
sign_other [] h = tt
sign_other (Name k ∷ xs) h = elim h [ ]
sign_other (Seq ∷ xs) h = elim h [ ]
sign_other (Open ∷ xs) h = λ l. omega arith
sign_other (Close ∷ xs) h = λ l. omega arith
sign_other (Comma ∷ xs) h = λ l. omega arith
sign_other (Plus ∷ xs) h = λ l. omega arith

sign_cut : (p b : ℕ) (bs : List ℕ) (ss : List Stretch) → (Letter b → ⊥) → (b ≡ 32 → ⊥) → Cut (p + 1) bs ss → Cut p (b ∷ bs) (at p (b ∷ []) ∷ ss)
sign_cut p b bs ss other solid c = single other solid (rw add-one at c)

spelling_cut : (p : ℕ) (xs : List Symbol) → Apart xs → Cut p (spelling xs) (placed p xs)
spelling_cut p [] a = end
spelling_cut p (Name k ∷ xs) a =
    let q = p + length (name_of k) in
    run_of p (name_of k) (spelling xs) (placed q xs) (omega (arith, name_long k)) (name_letters k) (sign_other xs a.0) (spelling_cut q xs a.1)
spelling_cut p (Seq ∷ xs) a = run_of p (spelled Seq) (spelling xs) (placed (p + 3) xs) (omega arith) (omega arith) (sign_other xs a.0) (spelling_cut (p + 3) xs a.1)
spelling_cut p (Open ∷ xs) a = sign_cut p 40 (spelling xs) (placed (p + 1) xs) (λ l. omega arith) (λ e. omega arith) (spelling_cut (p + 1) xs a)
spelling_cut p (Close ∷ xs) a = sign_cut p 41 (spelling xs) (placed (p + 1) xs) (λ l. omega arith) (λ e. omega arith) (spelling_cut (p + 1) xs a)
spelling_cut p (Comma ∷ xs) a = sign_cut p 44 (spelling xs) (placed (p + 1) xs) (λ l. omega arith) (λ e. omega arith) (spelling_cut (p + 1) xs a)
spelling_cut p (Plus ∷ xs) a = sign_cut p 43 (spelling xs) (placed (p + 1) xs) (λ l. omega arith) (λ e. omega arith) (spelling_cut (p + 1) xs a)

written_some : (t : Tree part) → 1 ≤ length (written t)
written_some (name k) = simp append-nil (omega (arith, name_long k))
written_some (plus t) = simp (spelling_append, length-append) (omega arith)
written_some (seq ts) = omega arith

pub written_reads : (t : Tree part) → Valid t → Reads (written t) (accepted t)
written_reads t v =
    let derived = tokens_derive t in
    accepts_reads (written t) t (record {
      stretches = placed 0 (tokens t);
      tokens = tokens t;
      some = written_some t;
      short = v.short;
      cut = spelling_cut 0 (tokens t) (derived_apart derived);
      spell = placed_spell 0 (tokens t);
      writes = derived;
      shallow = v.shallow;
      once = subst Distinct (sym (same_names derived)) v.once;
    })
