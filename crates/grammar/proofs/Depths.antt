-- How many brackets are open after some tokens and along them, when the tokens are put together.
use Rattle.std.proofs.Common.{◌≡◌, ℕ, suc, pred, ◌≤◌, max, List, [], ◌∷◌, ◌++◌, refl, append-nil, arith}
use Rattle.grammar.specs.declared.Symbol.{Symbol}
use Rattle.grammar.specs.declared.Symbol.TheVariants.{Name, Seq, Open, Close, Comma, Plus}
use Rattle.grammar.specs.Limits.{opened, deepest}

pub opened_append : (d : ℕ) (xs ys : List Symbol) → opened d (xs ++ ys) ≡ opened (opened d xs) ys
opened_append d [] ys = refl
opened_append d (Name k ∷ xs) ys = opened_append d xs ys
opened_append d (Seq ∷ xs) ys = opened_append d xs ys
opened_append d (Open ∷ xs) ys = opened_append (suc d) xs ys
opened_append d (Close ∷ xs) ys = opened_append (pred d) xs ys
opened_append d (Comma ∷ xs) ys = opened_append d xs ys
opened_append d (Plus ∷ xs) ys = opened_append d xs ys

pub deepest_least : (d : ℕ) (xs : List Symbol) → d ≤ deepest d xs
deepest_least d [] = omega arith
deepest_least d (Name k ∷ xs) = deepest_least d xs
deepest_least d (Seq ∷ xs) = deepest_least d xs
deepest_least d (Open ∷ xs) = omega (arith, deepest_least (suc d) xs)
deepest_least d (Close ∷ xs) = omega arith
deepest_least d (Comma ∷ xs) = deepest_least d xs
deepest_least d (Plus ∷ xs) = deepest_least d xs

pub deepest_append : (d : ℕ) (xs ys : List Symbol) → deepest d (xs ++ ys) ≡ max (deepest d xs) (deepest (opened d xs) ys)
deepest_append d [] ys = omega (arith, deepest_least d ys)
deepest_append d (Name k ∷ xs) ys = deepest_append d xs ys
deepest_append d (Seq ∷ xs) ys = deepest_append d xs ys
deepest_append d (Open ∷ xs) ys = deepest_append (suc d) xs ys
deepest_append d (Close ∷ xs) ys = omega (arith, deepest_append (pred d) xs ys)
deepest_append d (Comma ∷ xs) ys = deepest_append d xs ys
deepest_append d (Plus ∷ xs) ys = deepest_append d xs ys

pub deepest_rises : (d e : ℕ) (xs : List Symbol) → d ≤ e → deepest d xs ≤ deepest e xs
deepest_rises d e [] h = h
deepest_rises d e (Name k ∷ xs) h = deepest_rises d e xs h
deepest_rises d e (Seq ∷ xs) h = deepest_rises d e xs h
deepest_rises d e (Open ∷ xs) h = deepest_rises (suc d) (suc e) xs (omega arith)
deepest_rises d e (Close ∷ xs) h = let r = deepest_rises (pred d) (pred e) xs (omega arith) in omega arith
deepest_rises d e (Comma ∷ xs) h = deepest_rises d e xs h
deepest_rises d e (Plus ∷ xs) h = deepest_rises d e xs h

-- what is open after some tokens was open along them
pub opened_below : (d : ℕ) (xs ys : List Symbol) → opened d xs ≤ deepest d (xs ++ ys)
opened_below d xs ys = omega (arith, deepest_append d xs ys, deepest_least (opened d xs) ys)

-- one more token is as deep as before it, or as many brackets are open after it
deepest_one : (d : ℕ) (x : Symbol) → deepest d (x ∷ []) ≤ max d (opened d (x ∷ []))
deepest_one d (Name k) = omega arith
deepest_one d Seq = omega arith
deepest_one d Open = omega arith
deepest_one d Close = omega arith
deepest_one d Comma = omega arith
deepest_one d Plus = omega arith

pub deepest_more : (n d : ℕ) (xs : List Symbol) (x : Symbol) → deepest d xs ≤ n → opened d (xs ++ x ∷ []) ≤ n → deepest d (xs ++ x ∷ []) ≤ n
deepest_more n d xs x h k =
    omega (arith, deepest_append d xs (x ∷ []), deepest_one (opened d xs) x, opened_append d xs (x ∷ []), rw append-nil at (opened_below d xs []))
