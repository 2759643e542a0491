-- The order of groups and of states.
use Rattle.std.proofs.Common.{◌≡◌, ℕ, zero, suc, ◌&&◌, ◌⊎◌, inl, inr, not, Bool, true, false, IsTrue, List, [], ◌∷◌, length, map, replicate, refl, sym, ◌∙◌, arith, ap, subst}
use Rattle.ranges.specs.Kinds.{Kind, Unset, Word, Num, Ctx, Stack, Sector, SectorOrNull, is_number, is_unknown, join, round}
use Rattle.ranges.specs.Groups.{GroupKind, Marked, Spilled, zip_with, unset_marks, group_kept, marks_at_join, join_group, round_group, GroupContains}
use Rattle.ranges.specs.States.{Abstract, join_state, round_state, StateContains}
use Rattle.ranges.specs.Order.{Under, MarksUnder, GroupUnder, EachUnder, StateUnder, IsBounded, IsGroup, Each, IsState}
use Rattle.ranges.proofs.Joins.{join_first, join_other, join_least, under_contains, round_under, round_mono}

and_first : (x y : Bool) → IsTrue (x && y) → IsTrue x
and_first true y t = refl
and_first false y t = t

and_other : (x y : Bool) → IsTrue (x && y) → IsTrue y
and_other true y t = t
and_other false y t = absurd (let bad : false ≡ true = t in cc)

and_both : (x y : Bool) → IsTrue x → IsTrue y → IsTrue (x && y)
and_both true y p q = q
and_both false y p q = p

and_same : (x y : Bool) → (IsTrue x → IsTrue y) → (x && y) ≡ x
and_same true y p = p refl
and_same false y p = refl

-- the marks of a group

pub marks_refl : (xs : List Bool) → MarksUnder xs xs
marks_refl [] = tt
marks_refl (x ∷ xs) = (λ t. t, marks_refl xs)

pub marks_unset : (xs : List Bool) (n : ℕ) → length xs ≡ n → MarksUnder xs (replicate n false)
marks_unset [] zero e = tt
marks_unset [] (suc n) e = absurd (let bad : 0 ≡ suc n = e in cc)
marks_unset (x ∷ xs) zero e = absurd (let bad : suc (length xs) ≡ 0 = e in cc)
marks_unset (x ∷ xs) (suc n) e = (λ t. absurd (let bad : false ≡ true = t in cc), marks_unset xs n (omega arith))

marks_first : (xs ys : List Bool) → length xs ≡ length ys → MarksUnder xs (zip_with (λ a b. a && b) xs ys)
unfolding zip_with
marks_first [] [] e = tt
marks_first [] (y ∷ ys) e = absurd (let bad : 0 ≡ suc (length ys) = e in cc)
marks_first (x ∷ xs) [] e = absurd (let bad : suc (length xs) ≡ 0 = e in cc)
marks_first (x ∷ xs) (y ∷ ys) e = (and_first x y, marks_first xs ys (omega arith))

marks_other : (xs ys : List Bool) → length xs ≡ length ys → MarksUnder ys (zip_with (λ a b. a && b) xs ys)
unfolding zip_with
marks_other [] [] e = tt
marks_other [] (y ∷ ys) e = absurd (let bad : 0 ≡ suc (length ys) = e in cc)
marks_other (x ∷ xs) [] e = absurd (let bad : suc (length xs) ≡ 0 = e in cc)
marks_other (x ∷ xs) (y ∷ ys) e = (and_other x y, marks_other xs ys (omega arith))

marks_least : (xs ys zs : List Bool) → MarksUnder xs zs → MarksUnder ys zs → MarksUnder (zip_with (λ a b. a && b) xs ys) zs
unfolding zip_with
marks_least [] [] [] p q = tt
marks_least [] ys (z ∷ zs) p q = absurd p
marks_least [] (y ∷ ys) [] p q = absurd q
marks_least (x ∷ xs) ys [] p q = absurd p
marks_least (x ∷ xs) [] (z ∷ zs) p q = absurd q
marks_least (x ∷ xs) (y ∷ ys) (z ∷ zs) p q = (λ t. and_both x y (p.0 t) (q.0 t), marks_least xs ys zs p.1 q.1)

marks_same : (xs ys : List Bool) → MarksUnder ys xs → zip_with (λ a b. a && b) xs ys ≡ xs
unfolding zip_with
marks_same [] [] p = refl
marks_same [] (y ∷ ys) p = absurd p
marks_same (x ∷ xs) [] p = absurd p
marks_same (x ∷ xs) (y ∷ ys) p = rw (and_same x y p.0, marks_same xs ys p.1) refl

or_unset : (k : Kind) (zs : List Bool) → is_number k ≡ false → IsTrue (is_number k) ⊎ (zs ≡ unset_marks) → zs ≡ unset_marks
or_unset k zs e q = elim q [ inl n ↦ absurd (let t : is_number k ≡ true = n in cc) | inr same ↦ same ]

unset_under : (zs : List Bool) → zs ≡ unset_marks → MarksUnder unset_marks zs
unset_under zs e = rw e (marks_refl unset_marks)

-- groups

over_kept : (k m : Kind) → Under k m → GroupUnder (Spilled k) (group_kept m)
over_kept k Unset p = inr refl
over_kept k Word p = inr refl
over_kept k (Num x) p = p
over_kept k (Ctx a) p = p
over_kept k (Stack a) p = p
over_kept k (Sector x) p = p
over_kept k SectorOrNull p = p

kept_unset : (k : Kind) (zs : List Bool) → zs ≡ unset_marks → GroupUnder (group_kept k) (Marked zs)
kept_unset Unset zs e = rw e (marks_refl unset_marks)
kept_unset Word zs e = rw e (marks_refl unset_marks)
kept_unset (Num x) zs e = inr e
kept_unset (Ctx a) zs e = inr e
kept_unset (Stack a) zs e = inr e
kept_unset (Sector x) zs e = inr e
kept_unset SectorOrNull zs e = inr e

-- where both are numbers all bytes are written, and where one may be a pointer nothing is known
kept_joined : (k l : Kind) (zs : List Bool) → IsTrue (is_number k) ⊎ (zs ≡ unset_marks) → IsTrue (is_number l) ⊎ (zs ≡ unset_marks)
    → GroupUnder (group_kept (join k l)) (Marked zs)
unfolding join
kept_joined (Num x) (Num y) zs p q = inl refl
kept_joined k l zs (inr e) q = kept_unset (join k l) zs e
kept_joined k l zs p (inr e) = kept_unset (join k l) zs e
kept_joined Unset l zs (inl n) q = absurd (let bad : false ≡ true = n in cc)
kept_joined Word l zs (inl n) q = absurd (let bad : false ≡ true = n in cc)
kept_joined (Ctx a) l zs (inl n) q = absurd (let bad : false ≡ true = n in cc)
kept_joined (Stack a) l zs (inl n) q = absurd (let bad : false ≡ true = n in cc)
kept_joined (Sector x) l zs (inl n) q = absurd (let bad : false ≡ true = n in cc)
kept_joined SectorOrNull l zs (inl n) q = absurd (let bad : false ≡ true = n in cc)
kept_joined (Num x) Unset zs p (inl n) = absurd (let bad : false ≡ true = n in cc)
kept_joined (Num x) Word zs p (inl n) = absurd (let bad : false ≡ true = n in cc)
kept_joined (Num x) (Ctx a) zs p (inl n) = absurd (let bad : false ≡ true = n in cc)
kept_joined (Num x) (Stack a) zs p (inl n) = absurd (let bad : false ≡ true = n in cc)
kept_joined (Num x) (Sector y) zs p (inl n) = absurd (let bad : false ≡ true = n in cc)
kept_joined (Num x) SectorOrNull zs p (inl n) = absurd (let bad : false ≡ true = n in cc)

kept_under : (k m : Kind) → IsTrue (not (is_unknown m)) → Under k m → GroupUnder (group_kept k) (Spilled m)
kept_under k Unset t p = absurd (let bad : false ≡ true = t in cc)
kept_under k Word t p = absurd (let bad : false ≡ true = t in cc)
kept_under (Num x) (Num y) t p = p
kept_under k (Num y) t p = absurd p
kept_under (Ctx a) (Ctx b) t p = p
kept_under k (Ctx b) t p = absurd p
kept_under (Stack a) (Stack b) t p = p
kept_under k (Stack b) t p = absurd p
kept_under (Sector x) (Sector y) t p = p
kept_under k (Sector y) t p = absurd p
kept_under SectorOrNull SectorOrNull t p = p
kept_under k SectorOrNull t p = absurd p

kept_known : (k : Kind) → IsTrue (not (is_unknown k)) → group_kept k ≡ Spilled k
kept_known Unset t = absurd (let bad : false ≡ true = t in cc)
kept_known Word t = absurd (let bad : false ≡ true = t in cc)
kept_known (Num x) t = refl
kept_known (Ctx a) t = refl
kept_known (Stack a) t = refl
kept_known (Sector x) t = refl
kept_known SectorOrNull t = refl

-- marks where a value is kept instead

marks_met : (xs : List Bool) (k : Kind) → length xs ≡ 8 → MarksUnder xs (marks_at_join xs k)
marks_met xs (Num x) e = marks_refl xs
marks_met xs Unset e = marks_unset xs 8 e
marks_met xs Word e = marks_unset xs 8 e
marks_met xs (Ctx a) e = marks_unset xs 8 e
marks_met xs (Stack a) e = marks_unset xs 8 e
marks_met xs (Sector x) e = marks_unset xs 8 e
marks_met xs SectorOrNull e = marks_unset xs 8 e

value_met : (xs : List Bool) (k : Kind) → GroupUnder (Spilled k) (Marked (marks_at_join xs k))
value_met xs (Num x) = inl refl
value_met xs Unset = inr refl
value_met xs Word = inr refl
value_met xs (Ctx a) = inr refl
value_met xs (Stack a) = inr refl
value_met xs (Sector x) = inr refl
value_met xs SectorOrNull = inr refl

met_under : (xs : List Bool) (k : Kind) (zs : List Bool) → MarksUnder xs zs → IsTrue (is_number k) ⊎ (zs ≡ unset_marks) → MarksUnder (marks_at_join xs k) zs
met_under xs (Num x) zs p q = p
met_under xs Unset zs p q = unset_under zs (or_unset Unset zs refl q)
met_under xs Word zs p q = unset_under zs (or_unset Word zs refl q)
met_under xs (Ctx a) zs p q = unset_under zs (or_unset (Ctx a) zs refl q)
met_under xs (Stack a) zs p q = unset_under zs (or_unset (Stack a) zs refl q)
met_under xs (Sector x) zs p q = unset_under zs (or_unset (Sector x) zs refl q)
met_under xs SectorOrNull zs p q = unset_under zs (or_unset SectorOrNull zs refl q)

met_same : (xs : List Bool) (k : Kind) → IsTrue (is_number k) ⊎ (xs ≡ unset_marks) → marks_at_join xs k ≡ xs
met_same xs (Num x) q = refl
met_same xs Unset q = sym (or_unset Unset xs refl q)
met_same xs Word q = sym (or_unset Word xs refl q)
met_same xs (Ctx a) q = sym (or_unset (Ctx a) xs refl q)
met_same xs (Stack a) q = sym (or_unset (Stack a) xs refl q)
met_same xs (Sector x) q = sym (or_unset (Sector x) xs refl q)
met_same xs SectorOrNull q = sym (or_unset SectorOrNull xs refl q)

round_marks : (k : Kind) (ys : List Bool) → IsTrue (is_number k) ⊎ (ys ≡ unset_marks) → IsTrue (is_number (round k)) ⊎ (ys ≡ unset_marks)
unfolding round
round_marks (Num x) ys q = inl refl
round_marks Unset ys q = q
round_marks Word ys q = q
round_marks (Ctx a) ys q = q
round_marks (Stack a) ys q = q
round_marks (Sector x) ys q = inr (or_unset (Sector x) ys refl q)
round_marks SectorOrNull ys q = q

group_first : (g h : GroupKind) → IsGroup g → IsGroup h → GroupUnder g (join_group g h)
unfolding join_group
group_first (Marked xs) (Marked ys) a b = marks_first xs ys (a ∙ sym b)
group_first (Marked xs) (Spilled l) a b = marks_met xs l a
group_first (Spilled k) (Marked ys) a b = value_met ys k
group_first (Spilled k) (Spilled l) a b = over_kept k (join k l) (join_first k l)

group_other : (g h : GroupKind) → IsGroup g → IsGroup h → GroupUnder h (join_group g h)
unfolding join_group
group_other (Marked xs) (Marked ys) a b = marks_other xs ys (a ∙ sym b)
group_other (Marked xs) (Spilled l) a b = value_met xs l
group_other (Spilled k) (Marked ys) a b = marks_met ys k b
group_other (Spilled k) (Spilled l) a b = over_kept l (join k l) (join_other k l)

group_least : (g h u : GroupKind) → IsGroup u → GroupUnder g u → GroupUnder h u → GroupUnder (join_group g h) u
unfolding join_group
group_least (Marked xs) (Marked ys) (Marked zs) c p q = marks_least xs ys zs p q
group_least (Marked xs) (Spilled l) (Marked zs) c p q = met_under xs l zs p q
group_least (Spilled k) (Marked ys) (Marked zs) c p q = met_under ys k zs q p
group_least (Spilled k) (Spilled l) (Marked zs) c p q = kept_joined k l zs p q
group_least (Spilled k) (Spilled l) (Spilled m) c p q = kept_under (join k l) m c.0 (join_least k l m p q)
group_least (Marked xs) h (Spilled m) c p q = absurd p
group_least (Spilled k) (Marked ys) (Spilled m) c p q = absurd q

group_same : (g h : GroupKind) → IsGroup g → GroupUnder h g → GroupContains g h
unfolding join_group
group_same (Marked xs) (Marked ys) a p = ap (λ z. Marked z) (marks_same xs ys p)
group_same (Marked xs) (Spilled l) a p = ap (λ z. Marked z) (met_same xs l p)
group_same (Spilled k) (Marked ys) a p = absurd p
group_same (Spilled k) (Spilled l) a p = ap group_kept (under_contains k l p) ∙ kept_known k a.0

group_round : (g : GroupKind) → IsGroup g → GroupUnder g (round_group g)
unfolding round_group
group_round (Marked xs) a = marks_refl xs
group_round (Spilled k) a = round_under k a.1

pub group_round_mono : (g h : GroupKind) → IsGroup g → IsGroup h → GroupUnder g h → GroupUnder (round_group g) (round_group h)
unfolding round_group
group_round_mono (Marked xs) (Marked ys) a b p = p
group_round_mono (Marked xs) (Spilled l) a b p = absurd p
group_round_mono (Spilled k) (Marked ys) a b p = round_marks k ys p
group_round_mono (Spilled k) (Spilled l) a b p = round_mono k l a.1 b.1 p

-- lists, place by place

each_first : {X : Type 0} (R : X → X → Type 0) (P : X → Type 0) (j : X → X → X) → ((x y : X) → P x → P y → R x (j x y))
    → (xs ys : List X) → length xs ≡ length ys → Each P xs → Each P ys → EachUnder R xs (zip_with j xs ys)
unfolding zip_with
each_first R P j f [] [] e a b = tt
each_first R P j f [] (y ∷ ys) e a b = absurd (let bad : 0 ≡ suc (length ys) = e in cc)
each_first R P j f (x ∷ xs) [] e a b = absurd (let bad : suc (length xs) ≡ 0 = e in cc)
each_first R P j f (x ∷ xs) (y ∷ ys) e a b = (f x y a.0 b.0, each_first R P j f xs ys (omega arith) a.1 b.1)

each_other : {X : Type 0} (R : X → X → Type 0) (P : X → Type 0) (j : X → X → X) → ((x y : X) → P x → P y → R y (j x y))
    → (xs ys : List X) → length xs ≡ length ys → Each P xs → Each P ys → EachUnder R ys (zip_with j xs ys)
unfolding zip_with
each_other R P j f [] [] e a b = tt
each_other R P j f [] (y ∷ ys) e a b = absurd (let bad : 0 ≡ suc (length ys) = e in cc)
each_other R P j f (x ∷ xs) [] e a b = absurd (let bad : suc (length xs) ≡ 0 = e in cc)
each_other R P j f (x ∷ xs) (y ∷ ys) e a b = (f x y a.0 b.0, each_other R P j f xs ys (omega arith) a.1 b.1)

each_least : {X : Type 0} (R : X → X → Type 0) (P : X → Type 0) (j : X → X → X) → ((x y z : X) → P z → R x z → R y z → R (j x y) z)
    → (xs ys zs : List X) → Each P zs → EachUnder R xs zs → EachUnder R ys zs → EachUnder R (zip_with j xs ys) zs
unfolding zip_with
each_least R P j f [] [] [] c p q = tt
each_least R P j f [] (y ∷ ys) [] c p q = absurd q
each_least R P j f [] ys (z ∷ zs) c p q = absurd p
each_least R P j f (x ∷ xs) ys [] c p q = absurd p
each_least R P j f (x ∷ xs) [] (z ∷ zs) c p q = absurd q
each_least R P j f (x ∷ xs) (y ∷ ys) (z ∷ zs) c p q = (f x y z c.0 p.0 q.0, each_least R P j f xs ys zs c.1 p.1 q.1)

each_same : {X : Type 0} (R : X → X → Type 0) (P : X → Type 0) (j : X → X → X) → ((x y : X) → P x → R y x → j x y ≡ x)
    → (xs ys : List X) → Each P xs → EachUnder R ys xs → zip_with j xs ys ≡ xs
unfolding zip_with
each_same R P j f [] [] a p = refl
each_same R P j f [] (y ∷ ys) a p = absurd p
each_same R P j f (x ∷ xs) [] a p = absurd p
each_same R P j f (x ∷ xs) (y ∷ ys) a p = rw (f x y a.0 p.0, each_same R P j f xs ys a.1 p.1) refl

each_map : {X : Type 0} (R : X → X → Type 0) (P : X → Type 0) (r : X → X) → ((x : X) → P x → R x (r x))
    → (xs : List X) → Each P xs → EachUnder R xs (map r xs)
each_map R P r f [] a = tt
each_map R P r f (x ∷ xs) a = (f x a.0, each_map R P r f xs a.1)

pub each_mono : {X : Type 0} (R : X → X → Type 0) (P : X → Type 0) (r : X → X) → ((x y : X) → P x → P y → R x y → R (r x) (r y))
    → (xs ys : List X) → Each P xs → Each P ys → EachUnder R xs ys → EachUnder R (map r xs) (map r ys)
each_mono R P r f [] [] a b p = tt
each_mono R P r f [] (y ∷ ys) a b p = absurd p
each_mono R P r f (x ∷ xs) [] a b p = absurd p
each_mono R P r f (x ∷ xs) (y ∷ ys) a b p = (f x y a.0 b.0 p.0, each_mono R P r f xs ys a.1 b.1 p.1)

-- states

pub state_first : (s t : Abstract) → IsState s → IsState t → StateUnder s (join_state s t)
unfolding join_state
state_first s t a b = record {
  values = each_first Under IsBounded join (λ x y _ _. join_first x y) s.values t.values (a.registers ∙ sym b.registers) a.values b.values;
  groups = each_first GroupUnder IsGroup join_group group_first s.groups t.groups (a.stack ∙ sym b.stack) a.groups b.groups;
}

pub state_other : (s t : Abstract) → IsState s → IsState t → StateUnder t (join_state s t)
unfolding join_state
state_other s t a b = record {
  values = each_other Under IsBounded join (λ x y _ _. join_other x y) s.values t.values (a.registers ∙ sym b.registers) a.values b.values;
  groups = each_other GroupUnder IsGroup join_group group_other s.groups t.groups (a.stack ∙ sym b.stack) a.groups b.groups;
}

pub state_least : (s t u : Abstract) → IsState s → IsState t → IsState u → StateUnder s u → StateUnder t u → StateUnder (join_state s t) u
unfolding join_state
state_least s t u a b c p q = record {
  values = each_least Under IsBounded join (λ x y z _ m n. join_least x y z m n) s.values t.values u.values c.values p.values q.values;
  groups = each_least GroupUnder IsGroup join_group group_least s.groups t.groups u.groups c.groups p.groups q.groups;
}

pub state_same : (s t : Abstract) → IsState s → IsState t → StateUnder t s → StateContains s t
unfolding join_state
state_same s t a b p =
    let values : zip_with join s.values t.values ≡ s.values = each_same Under IsBounded join (λ x y _ m. under_contains x y m) s.values t.values a.values p.values in
    let groups : zip_with join_group s.groups t.groups ≡ s.groups = each_same GroupUnder IsGroup join_group group_same s.groups t.groups a.groups p.groups in
    λ i. record { values = values i; groups = groups i }

pub state_under : (s t : Abstract) → IsState s → IsState t → StateContains s t → StateUnder t s
state_under s t a b e = subst (λ u. StateUnder t u) e (state_other s t a b)

pub state_round : (s : Abstract) → IsState s → StateUnder s (round_state s)
unfolding round_state
state_round s a = record {
  values = each_map Under IsBounded round round_under s.values a.values;
  groups = each_map GroupUnder IsGroup round_group group_round s.groups a.groups;
}

pub state_round_mono : (s t : Abstract) → IsState s → IsState t → StateUnder s t → StateUnder (round_state s) (round_state t)
unfolding round_state
state_round_mono s t a b p = record {
  values = each_mono Under IsBounded round round_mono s.values t.values a.values b.values p.values;
  groups = each_mono GroupUnder IsGroup round_group group_round_mono s.groups t.groups a.groups b.groups p.groups;
}
