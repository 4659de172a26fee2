-- What a stack holds after one more or one less.
use Rattle.std.proofs.Common.{◌≡◌, ℕ, ◌+◌, ◌-◌, ◌<◌, ◌≤◌, List, [], ◌∷◌, ◌++◌, reverse, length, get_or, take, set, ap, ◌∙◌, subst, arith}
use mathlib.Core.List.{reverse-append}
use Rattle.std.proofs.lemmas.List.{length-reverse, length-take-le, take_more, take_more_set}
use Rattle.pattern.specs.Stacks.{held}

pub held_length : {X : Type 0} (items : List X) (len : ℕ) → len ≤ length items → length (held items len) ≡ len
held_length items len h = length-reverse (take len items) ∙ length-take-le len items h

pub last_first : {X : Type 0} (xs : List X) (x : X) → reverse (xs ++ x ∷ []) ≡ x ∷ reverse xs
last_first xs x = reverse-append xs (x ∷ [])

pub held_push : {X : Type 0} (items : List X) (len : ℕ) (x : X) → len < length items → held (set items len x) (len + 1) ≡ x ∷ held items len
held_push items len x h = ap reverse (take_more_set items len x h) ∙ last_first (take len items) x

pub held_pop : {X : Type 0} (items : List X) (len : ℕ) (d : X) → 0 < len → len ≤ length items → held items len ≡ get_or items (len - 1) d ∷ held items (len - 1)
held_pop items len d some h =
    let back : len - 1 + 1 ≡ len = omega arith in
    subst (λ n. held items n ≡ get_or items (len - 1) d ∷ held items (len - 1)) back (ap reverse (take_more items (len - 1) d (omega arith)) ∙ last_first (take (len - 1) items) (get_or items (len - 1) d))
