-- Facts about derivations: the tokens of a tree derive it, and no other derivation has fewer bytes or is less deep.
use Rattle.std.proofs.Common.{◌≡◌, ℕ, suc, pred, ◌+◌, ◌≤◌, max, List, [], ◌∷◌, ◌++◌, length, refl, ap, ◌∙◌, append_assoc, append-nil, arith, length-append}
use Rattle.grammar.specs.declared.Symbol.{Symbol}
use Rattle.grammar.specs.declared.Symbol.TheVariants.{Name, Seq, Open, Close, Comma, Plus}
use Rattle.grammar.specs.Trees.{Level, part, parts, Tree, name, plus, seq, two, more, names}
use Rattle.grammar.specs.Grammar.{Role, an_atom, a_part, some_parts, Derives, named, bracketed, in_order, plain, repeated, first_two, one_more, Writes}
use Rattle.grammar.specs.Texts.{enclosed, tokens, spelling}
use Rattle.grammar.specs.Limits.{opened, deepest, named as names_among}
use Rattle.grammar.proofs.Depths.{opened_append, deepest_least, deepest_append, deepest_rises}

-- The type names.

pub names_among_append : (xs ys : List Symbol) → names_among (xs ++ ys) ≡ names_among xs ++ names_among ys
names_among_append [] ys = refl
names_among_append (Name k ∷ xs) ys = ap (λ zs. k ∷ zs) (names_among_append xs ys)
names_among_append (Seq ∷ xs) ys = names_among_append xs ys
names_among_append (Open ∷ xs) ys = names_among_append xs ys
names_among_append (Close ∷ xs) ys = names_among_append xs ys
names_among_append (Comma ∷ xs) ys = names_among_append xs ys
names_among_append (Plus ∷ xs) ys = names_among_append xs ys

-- in every role
derived_names : {r : Role} {l : Level} {t : Tree l} {xs : List Symbol} → Derives r l t xs → names_among xs ≡ names t
derived_names (named k) = refl
derived_names (bracketed d) = simp (names_among_append, append-nil, derived_names d)
derived_names (in_order d) = simp (names_among_append, append-nil, derived_names d)
derived_names (plain d) = derived_names d
derived_names (repeated d) = simp (names_among_append, append-nil, derived_names d)
derived_names (first_two d e) = simp (names_among_append, derived_names d, derived_names e)
derived_names (one_more d e) = simp (names_among_append, derived_names d, derived_names e)

pub same_names : {t : Tree part} {xs : List Symbol} → Writes xs t → names_among xs ≡ names t
same_names w = derived_names w

-- The tokens of a tree.

-- the tokens derive the tree, and with the brackets that a + wants they are an atom
abbrev Derived : (l : Level) → Tree l → Type 0
Derived part t = Derives an_atom part t (enclosed t (tokens t)) × Derives a_part part t (tokens t)
Derived parts ts = Derives some_parts parts ts (tokens ts)

pub tokens_derived : {l : Level} (t : Tree l) → Derived l t
tokens_derived (name k) = (named k, plain (named k))
tokens_derived (plus t) = (bracketed (repeated (tokens_derived t).0), repeated (tokens_derived t).0)
tokens_derived (seq ts) = (in_order (tokens_derived ts), plain (in_order (tokens_derived ts)))
tokens_derived (two t u) = first_two (tokens_derived t).1 (tokens_derived u).1
tokens_derived (more ts u) = one_more (tokens_derived ts) (tokens_derived u).1

pub tokens_derive : (t : Tree part) → Writes (tokens t) t
tokens_derive t = (tokens_derived t).1

-- The bytes.

pub spelling_append : (xs ys : List Symbol) → spelling (xs ++ ys) ≡ spelling xs ++ spelling ys
spelling_append [] ys = refl
spelling_append (x ∷ xs) ys = simp (spelling_append xs ys, append_assoc)

-- what a role's derivations must show of the tokens: an atom's of those with the brackets that a + wants
abbrev Least : (List Symbol → List Symbol → Type 0) → Role → (l : Level) → Tree l → List Symbol → Type 0
Least P an_atom part t xs = P (enclosed t (tokens t)) xs
Least P an_atom parts ts xs = Unit {0}
Least P a_part part t xs = P (tokens t) xs
Least P a_part parts ts xs = Unit {0}
Least P some_parts part t xs = Unit {0}
Least P some_parts parts ts xs = P (tokens ts) xs

abbrev size : List Symbol → ℕ
size xs = length (spelling xs)

size_append : (xs ys : List Symbol) → size (xs ++ ys) ≡ size xs + size ys
size_append xs ys = simp (spelling_append, length-append)

enclosed_size : (t : Tree part) (xs : List Symbol) → (size xs ≤ size (enclosed t xs)) × (size (enclosed t xs) ≤ size xs + 2)
enclosed_size (name k) xs = omega arith
enclosed_size (plus t) xs = omega (arith, size_append xs (Close ∷ []))
enclosed_size (seq ts) xs = omega arith

least_size : {r : Role} {l : Level} {t : Tree l} {xs : List Symbol} → Derives r l t xs → Least (λ ys zs. size ys ≤ size zs) r l t xs
least_size (named k) = omega arith
least_size (bracketed {t = t} {xs = xs} d) = omega (arith, least_size d, enclosed_size t (tokens t), size_append xs (Close ∷ []))
least_size (in_order {ts = ts} {xs = xs} d) = omega (arith, least_size d, size_append xs (Close ∷ []), size_append (tokens ts) (Close ∷ []))
least_size (plain {t = t} d) = omega (arith, least_size d, enclosed_size t (tokens t))
least_size (repeated {t = t} {xs = xs} d) = omega (arith, least_size d, size_append xs (Plus ∷ []), size_append (enclosed t (tokens t)) (Plus ∷ []))
least_size (first_two {t = t} {u = u} {xs = xs} {ys = ys} d e) =
    omega (arith, least_size d, least_size e, size_append xs (Comma ∷ ys), size_append (tokens t) (Comma ∷ tokens u))
least_size (one_more {ts = ts} {u = u} {xs = xs} {ys = ys} d e) =
    omega (arith, least_size d, least_size e, size_append xs (Comma ∷ ys), size_append (tokens ts) (Comma ∷ tokens u))

pub no_shorter : {t : Tree part} {xs : List Symbol} → Writes xs t → length (spelling (tokens t)) ≤ length (spelling xs)
no_shorter w = least_size w

-- The brackets.

-- after a derivation as many brackets are open as before
pub balanced : {r : Role} {l : Level} {t : Tree l} {xs : List Symbol} → Derives r l t xs → (d : ℕ) → opened d xs ≡ d
balanced (named k) d = refl
balanced (bracketed {xs = xs} e) d = opened_append (suc d) xs (Close ∷ []) ∙ ap pred (balanced e (suc d))
balanced (in_order {xs = xs} e) d = opened_append (suc d) xs (Close ∷ []) ∙ ap pred (balanced e (suc d))
balanced (plain e) d = balanced e d
balanced (repeated {xs = xs} e) d = opened_append d xs (Plus ∷ []) ∙ balanced e d
balanced (first_two {xs = xs} {ys = ys} e f) d = opened_append d xs (Comma ∷ ys) ∙ ap (λ n. opened n ys) (balanced e d) ∙ balanced f d
balanced (one_more {xs = xs} {ys = ys} e f) d = opened_append d xs (Comma ∷ ys) ∙ ap (λ n. opened n ys) (balanced e d) ∙ balanced f d

pub deepest_behind : {r : Role} {l : Level} {t : Tree l} {xs : List Symbol} → Derives r l t xs → (d : ℕ) (ys : List Symbol) → deepest d (xs ++ ys) ≡ max (deepest d xs) (deepest d ys)
deepest_behind {xs} e d ys = deepest_append d xs ys ∙ ap (λ n. max (deepest d xs) (deepest n ys)) (balanced e d)

enclosed_depth : (t : Tree part) (d : ℕ) → (deepest d (tokens t) ≤ deepest d (enclosed t (tokens t))) × (deepest d (enclosed t (tokens t)) ≤ deepest (suc d) (tokens t))
enclosed_depth (name k) d = omega arith
enclosed_depth (plus t) d =
    let xs = tokens (plus t) in
    omega (arith, deepest_behind (tokens_derive (plus t)) (suc d) (Close ∷ []), deepest_least (suc d) xs, deepest_rises d (suc d) xs (omega arith))
enclosed_depth (seq ts) d = omega (arith, deepest_rises d (suc d) (tokens (seq ts)) (omega arith))

least_depth : {r : Role} {l : Level} {t : Tree l} {xs : List Symbol} → Derives r l t xs → Least (λ ys zs. (d : ℕ) → deepest d ys ≤ deepest d zs) r l t xs
least_depth (named k) = λ d. omega arith
least_depth (bracketed {t = t} e) = λ d. omega (arith, least_depth e (suc d), enclosed_depth t d, deepest_behind e (suc d) (Close ∷ []))
least_depth (in_order {ts = ts} e) = λ d.
    omega (arith, least_depth e (suc d), deepest_behind e (suc d) (Close ∷ []), deepest_behind (tokens_derived ts) (suc d) (Close ∷ []))
least_depth (plain {t = t} e) = λ d. omega (arith, least_depth e d, enclosed_depth t d)
least_depth (repeated {t = t} e) = λ d.
    omega (arith, least_depth e d, deepest_behind e d (Plus ∷ []), deepest_behind (tokens_derived t).0 d (Plus ∷ []))
least_depth (first_two {t = t} {u = u} {ys = ys} e f) = λ d.
    omega (arith, least_depth e d, least_depth f d, deepest_behind e d (Comma ∷ ys), deepest_behind (tokens_derive t) d (Comma ∷ tokens u))
least_depth (one_more {ts = ts} {u = u} {ys = ys} e f) = λ d.
    omega (arith, least_depth e d, least_depth f d, deepest_behind e d (Comma ∷ ys), deepest_behind (tokens_derived ts) d (Comma ∷ tokens u))

pub no_deeper : {t : Tree part} {xs : List Symbol} → Writes xs t → deepest 0 (tokens t) ≤ deepest 0 xs
no_deeper w = least_depth w 0
