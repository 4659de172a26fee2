-- Two listings of the same come to the same join; listings moved, mapped and put together.
use Rattle.std.proofs.Common.{◌≡◌, ◌⊎◌, ◌↔◌, List, [], ◌∷◌, ◌++◌, map, sym, refl, ap, ◌∙◌, subst, inl, inr, ⊎_elim}
use Rattle.grammar.proofs.Paths.{in_left, in_right}
use Rattle.grammar.specs.Trees.{In, here, there, Distinct}
use Rattle.weights.specs.Kinds.{Kind, CommutativeMonoid}
use Rattle.semantics.specs.Trends.{Listing, joined}

module _ {X : Type 0} where
  -- the list without the one that stands at this place
  without : {x : X} {xs : List X} → In x xs → List X
  without (here {xs = xs}) = xs
  without (there {y = y} i) = y ∷ without i

  in_or_out : {x z : X} {xs : List X} (i : In x xs) → In z xs → (z ≡ x) ⊎ In z (without i)
  unfolding without
  in_or_out here here = inl refl
  in_or_out here (there k) = inr k
  in_or_out (there i) here = inr here
  in_or_out (there i) (there k) = ⊎_elim inl (λ h. inr (there h)) (in_or_out i k)

  in_still : {x z : X} {xs : List X} (i : In x xs) → In z (without i) → In z xs
  unfolding without
  in_still here k = there k
  in_still (there i) here = here
  in_still (there i) (there k) = there (in_still i k)

  distinct_without : {x : X} {xs : List X} (i : In x xs) → Distinct xs → (In x (without i) → ⊥) × Distinct (without i)
  unfolding without
  distinct_without here d = d
  distinct_without (there {y = y} i) d =
      let rest = distinct_without i d.1 in
      (gone i d.0 rest.0, (λ k. d.0 (in_still i k), rest.1))
    where
      gone : {x y : X} {xs : List X} (i : In x xs) → (In y xs → ⊥) → (In x (without i) → ⊥) → In x (y ∷ without i) → ⊥
      gone i n m here = n i
      gone i n m (there k) = m k

  pub not_in_none : {x : X} → In x [] → ⊥
  not_in_none i = elim i [ ]

  module _ {V : Type 0} (kind : Kind V) (laws : CommutativeMonoid kind.zero kind.join) (f : X → V) where
    -- the one that stands there may be joined first
    join_first : {x : X} {xs : List X} (i : In x xs) → joined kind (map f xs) ≡ kind.join (f x) (joined kind (map f (without i)))
    unfolding without
    join_first here = refl
    join_first {x} (there {y = y} i) =
        let r = joined kind (map f (without i)) in
        ap (kind.join (f y)) (join_first i) ∙ sym (laws.monoid.assoc (f y) (f x) r) ∙ ap (λ v. kind.join v r) (laws.comm (f y) (f x)) ∙ laws.monoid.assoc (f x) (f y) r

    same_join_of : (xs ys : List X) → Distinct xs → Distinct ys → ((x : X) → In x xs → In x ys) → ((x : X) → In x ys → In x xs) → joined kind (map f xs) ≡ joined kind (map f ys)
    same_join_of [] [] d e to from = refl
    same_join_of [] (y ∷ ys) d e to from = absurd (not_in_none (from y here))
    same_join_of (x ∷ xs) ys d e to from =
        let i = to x here in
        let rest = distinct_without i e in
        ap (kind.join (f x)) (same_join_of xs (without i) d.1 rest.1
        (λ z k. ⊎_elim (λ q. absurd (d.0 (subst (λ w. In w xs) q k))) (λ h. h) (in_or_out i (to z (there k))))
        (λ z k. past rest.0 k (from z (in_still i k))))
        ∙ sym (join_first i)
      where
        past : {x z : X} {xs ys : List X} → (In x ys → ⊥) → In z ys → In z (x ∷ xs) → In z xs
        past n k here = absurd (n k)
        past n k (there h) = h

    -- however the same are listed, they come to the same join
    pub same_join : {P : X → Type 0} (xs ys : List X) → Listing P xs → Listing P ys → joined kind (map f xs) ≡ joined kind (map f ys)
    same_join xs ys l m = same_join_of xs ys l.once m.once (λ x i. m.each x (l.only x i)) (λ x i. l.each x (m.only x i))

-- lists of the same
pub listing_iff : {X : Type 0} {P Q : X → Type 0} {xs : List X} → ((x : X) → P x ↔ Q x) → Listing P xs → Listing Q xs
listing_iff e l = record { only = λ x i. (e x).0 (l.only x i); each = λ x q. l.each x ((e x).1 q); once = l.once }

in_map : {X Y : Type 0} (f : X → Y) {x : X} {xs : List X} → In x xs → In (f x) (map f xs)
in_map f here = here
in_map f (there i) = there (in_map f i)

map_in : {X Y : Type 0} (f : X → Y) (xs : List X) {y : Y} → In y (map f xs) → (x : X) × In x xs × (y ≡ f x)
map_in f [] i = absurd (not_in_none i)
map_in f (x ∷ xs) here = (x, here, refl)
map_in f (x ∷ xs) (there i) = let r = map_in f xs i in (r.0, there r.1, r.2)

distinct_map : {X Y : Type 0} (f : X → Y) (xs : List X) → ((x y : X) → In x xs → In y xs → f x ≡ f y → x ≡ y) → Distinct xs → Distinct (map f xs)
distinct_map f [] inj d = tt
distinct_map f (x ∷ xs) inj d = (
  λ i. let r = map_in f xs i in d.0 (subst (λ z. In z xs) (sym (inj x r.0 here (there r.1) r.2)) r.1),
  distinct_map f xs (λ y z i k. inj y z (there i) (there k)) d.1,
)

-- the images of what is listed, where no two have the same image
pub listing_map : {X Y : Type 0} {P : X → Type 0} (f : X → Y) (xs : List X) → ((x y : X) → P x → P y → f x ≡ f y → x ≡ y) → Listing P xs → Listing (λ y. (x : X) × P x × (y ≡ f x)) (map f xs)
listing_map f xs inj l = record {
  only = λ y i. let r = map_in f xs i in (r.0, l.only r.0 r.1, r.2);
  each = λ y h. subst (λ z. In z (map f xs)) (sym h.2) (in_map f (l.each h.0 h.1));
  once = distinct_map f xs (λ x y i k. inj x y (l.only x i) (l.only y k)) l.once;
}

-- two maps that undo each other move a listing
pub listing_along : {X Y : Type 0} {P : X → Type 0} {Q : Y → Type 0} (to : X → Y) (from : Y → X) (xs : List X) → ((x : X) → P x → Q (to x) × (from (to x) ≡ x)) → ((y : Y) → Q y → P (from y) × (to (from y) ≡ y)) → Listing P xs → Listing Q (map to xs)
listing_along {Q = Q} to from xs there_and back l =
    listing_iff (λ y. (λ h. subst Q (sym h.2) (there_and h.0 h.1).0, λ q. (from y, (back y q).0, sym (back y q).1)))
    (listing_map to xs (λ x y p q e. sym (there_and x p).1 ∙ ap from e ∙ (there_and y q).1) l)

in_either : {X : Type 0} (xs ys : List X) {x : X} → In x (xs ++ ys) → In x xs ⊎ In x ys
in_either [] ys i = inr i
in_either (x ∷ xs) ys here = inl here
in_either (x ∷ xs) ys (there i) = ⊎_elim (λ h. inl (there h)) inr (in_either xs ys i)

distinct_both : {X : Type 0} (xs ys : List X) → Distinct xs → Distinct ys → ((x : X) → In x xs → In x ys → ⊥) → Distinct (xs ++ ys)
distinct_both [] ys d e apart = e
distinct_both (x ∷ xs) ys d e apart =
    (λ i. ⊎_elim d.0 (apart x here) (in_either xs ys i), distinct_both xs ys d.1 e (λ z i. apart z (there i)))

-- a listing and then one of what the first has not
pub listing_both : {X : Type 0} {P Q : X → Type 0} (xs ys : List X) → ((x : X) → P x → Q x → ⊥) → Listing P xs → Listing Q ys → Listing (λ x. P x ⊎ Q x) (xs ++ ys)
listing_both xs ys apart l m = record {
  only = λ x i. ⊎_elim (λ h. inl (l.only x h)) (λ h. inr (m.only x h)) (in_either xs ys i);
  each = λ x h. ⊎_elim (λ p. in_left ys (l.each x p)) (λ q. in_right xs (m.each x q)) h;
  once = distinct_both xs ys l.once m.once (λ x i k. apart x (l.only x i) (m.only x k));
}
