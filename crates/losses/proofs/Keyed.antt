-- Keys of choices: they rise in the order of choices, and the parts of a choice have the listed ones.
use Rattle.std.proofs.Common.{ℕ, zero, suc, ◌≡◌, ◌+◌, ◌*◌, ◌<◌, ◌≤◌, ◌⊎◌, List, [], ◌∷◌, length, slice_get, None, Some, refl, sym, ◌∙◌, ap, subst, inl, inr, arith}
use Rattle.losses.specs.FirstParts.{AreRising, Precedes}
use Rattle.losses.specs.Keys.{key_of, other_parts, part_keys, AreWords}
use Rattle.losses.proofs.Parts.{Leaves}

-- the key of a choice of that form
one : (a : ℕ) → key_of (a ∷ []) ≡ a + 1
unfolding key_of
one a = refl

two : (a b : ℕ) → key_of (a ∷ b ∷ []) ≡ 4294967296 * (a + 1) + (b + 1)
unfolding key_of
two a b = refl

three : (a b c : ℕ) → key_of (a ∷ b ∷ c ∷ []) ≡ 18446744073709551616 * (a + 1) + 4294967296 * (b + 1) + (c + 1)
unfolding key_of
three a b c = refl

none : key_of [] ≡ 0
unfolding key_of
none = refl

-- keys rise in the order of choices
pub keys_rise : (ns ms : List ℕ) → length ns ≤ 3 → length ms ≤ 3 → AreWords ns → AreWords ms → Precedes ns ms → key_of ns < key_of ms
keys_rise [] [] ln lm wn wm (inl h) = absurd (omega (arith, h))
keys_rise [] [] ln lm wn wm (inr h) = absurd h.1
keys_rise [] (x ∷ []) ln lm wn wm h = omega (arith, none, one x)
keys_rise [] (x ∷ y ∷ []) ln lm wn wm h = omega (arith, none, two x y)
keys_rise [] (x ∷ y ∷ z ∷ []) ln lm wn wm h = omega (arith, none, three x y z)
keys_rise (a ∷ []) [] ln lm wn wm (inl h) = absurd (omega (arith, h))
keys_rise (a ∷ []) [] ln lm wn wm (inr h) = absurd h.1
keys_rise (a ∷ []) (x ∷ []) ln lm wn wm (inl h) = absurd (omega (arith, h))
keys_rise (a ∷ []) (x ∷ []) ln lm wn wm (inr (e, inl lt)) = omega (arith, one a, one x, lt)
keys_rise (a ∷ []) (x ∷ []) ln lm wn wm (inr (e, inr h)) = absurd h.1
keys_rise (a ∷ []) (x ∷ y ∷ []) ln lm wn wm h = let la = wn 0 a refl in omega (arith, one a, two x y, la)
keys_rise (a ∷ []) (x ∷ y ∷ z ∷ []) ln lm wn wm h = let la = wn 0 a refl in omega (arith, one a, three x y z, la)
keys_rise (a ∷ b ∷ []) [] ln lm wn wm (inl h) = absurd (omega (arith, h))
keys_rise (a ∷ b ∷ []) [] ln lm wn wm (inr h) = absurd h.1
keys_rise (a ∷ b ∷ []) (x ∷ []) ln lm wn wm (inl h) = absurd (omega (arith, h))
keys_rise (a ∷ b ∷ []) (x ∷ []) ln lm wn wm (inr h) = absurd (let e = h.0 in omega (arith, e))
keys_rise (a ∷ b ∷ []) (x ∷ y ∷ []) ln lm wn wm (inl h) = absurd (omega (arith, h))
keys_rise (a ∷ b ∷ []) (x ∷ y ∷ []) ln lm wn wm (inr (e, inl lt)) = let lb = wn 1 b refl in omega (arith, two a b, two x y, lt, lb)
keys_rise (a ∷ b ∷ []) (x ∷ y ∷ []) ln lm wn wm (inr (e, inr (f, inl lt))) = omega (arith, two a b, two x y, f, lt)
keys_rise (a ∷ b ∷ []) (x ∷ y ∷ []) ln lm wn wm (inr (e, inr (f, inr h))) = absurd h.1
keys_rise (a ∷ b ∷ []) (x ∷ y ∷ z ∷ []) ln lm wn wm h = let la = wn 0 a refl in let lb = wn 1 b refl in omega (arith, two a b, three x y z, la, lb)
keys_rise (a ∷ b ∷ c ∷ []) [] ln lm wn wm (inl h) = absurd (omega (arith, h))
keys_rise (a ∷ b ∷ c ∷ []) [] ln lm wn wm (inr h) = absurd h.1
keys_rise (a ∷ b ∷ c ∷ []) (x ∷ []) ln lm wn wm (inl h) = absurd (omega (arith, h))
keys_rise (a ∷ b ∷ c ∷ []) (x ∷ []) ln lm wn wm (inr h) = absurd (let e = h.0 in omega (arith, e))
keys_rise (a ∷ b ∷ c ∷ []) (x ∷ y ∷ []) ln lm wn wm (inl h) = absurd (omega (arith, h))
keys_rise (a ∷ b ∷ c ∷ []) (x ∷ y ∷ []) ln lm wn wm (inr h) = absurd (let e = h.0 in omega (arith, e))
keys_rise (a ∷ b ∷ c ∷ []) (x ∷ y ∷ z ∷ []) ln lm wn wm (inl h) = absurd (omega (arith, h))
keys_rise (a ∷ b ∷ c ∷ []) (x ∷ y ∷ z ∷ []) ln lm wn wm (inr (e, inl lt)) = let lb = wn 1 b refl in let lc = wn 2 c refl in omega (arith, three a b c, three x y z, lt, lb, lc)
keys_rise (a ∷ b ∷ c ∷ []) (x ∷ y ∷ z ∷ []) ln lm wn wm (inr (e, inr (f, inl lt))) = let lc = wn 2 c refl in omega (arith, three a b c, three x y z, f, lt, lc)
keys_rise (a ∷ b ∷ c ∷ []) (x ∷ y ∷ z ∷ []) ln lm wn wm (inr (e, inr (f, inr (g, inl lt)))) = omega (arith, three a b c, three x y z, f, g, lt)
keys_rise (a ∷ b ∷ c ∷ []) (x ∷ y ∷ z ∷ []) ln lm wn wm (inr (e, inr (f, inr (g, inr h)))) = absurd h.1
keys_rise (a ∷ b ∷ c ∷ d ∷ ns) ms ln lm wn wm h = absurd (omega (arith, ln))
keys_rise ns (a ∷ b ∷ c ∷ d ∷ ms) ln lm wn wm h = absurd (omega (arith, lm))

-- and tell the choice
pub key_tells : (ns ms : List ℕ) → length ns ≤ 3 → length ms ≤ 3 → AreWords ns → AreWords ms → key_of ns ≡ key_of ms → ns ≡ ms
key_tells [] [] ln lm wn wm e = refl
key_tells [] (x ∷ []) ln lm wn wm e = absurd (omega (arith, none, one x, e))
key_tells [] (x ∷ y ∷ []) ln lm wn wm e = absurd (omega (arith, none, two x y, e))
key_tells [] (x ∷ y ∷ z ∷ []) ln lm wn wm e = absurd (omega (arith, none, three x y z, e))
key_tells (a ∷ []) [] ln lm wn wm e = absurd (omega (arith, none, one a, e))
key_tells (a ∷ []) (x ∷ []) ln lm wn wm e = let s : a ≡ x = omega (arith, one a, one x, e) in ap (λ v. v ∷ []) s
key_tells (a ∷ []) (x ∷ y ∷ []) ln lm wn wm e = absurd (let la = wn 0 a refl in omega (arith, one a, two x y, e, la))
key_tells (a ∷ []) (x ∷ y ∷ z ∷ []) ln lm wn wm e = absurd (let la = wn 0 a refl in omega (arith, one a, three x y z, e, la))
key_tells (a ∷ b ∷ []) [] ln lm wn wm e = absurd (omega (arith, none, two a b, e))
key_tells (a ∷ b ∷ []) (x ∷ []) ln lm wn wm e = absurd (let lx = wm 0 x refl in omega (arith, two a b, one x, e, lx))
key_tells (a ∷ b ∷ []) (x ∷ y ∷ []) ln lm wn wm e =
    let lb = wn 1 b refl in
    let ly = wm 1 y refl in
    let s : a ≡ x = omega (arith, two a b, two x y, e, lb, ly) in
    let t : b ≡ y = omega (arith, two a b, two x y, e, s) in
    ap (λ v. v ∷ b ∷ []) s ∙ ap (λ v. x ∷ v ∷ []) t
key_tells (a ∷ b ∷ []) (x ∷ y ∷ z ∷ []) ln lm wn wm e = absurd (let la = wn 0 a refl in let lb = wn 1 b refl in omega (arith, two a b, three x y z, e, la, lb))
key_tells (a ∷ b ∷ c ∷ []) [] ln lm wn wm e = absurd (omega (arith, none, three a b c, e))
key_tells (a ∷ b ∷ c ∷ []) (x ∷ []) ln lm wn wm e = absurd (let lx = wm 0 x refl in omega (arith, three a b c, one x, e, lx))
key_tells (a ∷ b ∷ c ∷ []) (x ∷ y ∷ []) ln lm wn wm e = absurd (let lx = wm 0 x refl in let ly = wm 1 y refl in omega (arith, three a b c, two x y, e, lx, ly))
key_tells (a ∷ b ∷ c ∷ []) (x ∷ y ∷ z ∷ []) ln lm wn wm e =
    let lb = wn 1 b refl in
    let lc = wn 2 c refl in
    let ly = wm 1 y refl in
    let lz = wm 2 z refl in
    let s : a ≡ x = omega (arith, three a b c, three x y z, e, lb, lc, ly, lz) in
    let t : b ≡ y = omega (arith, three a b c, three x y z, e, s, lc, lz) in
    let u : c ≡ z = omega (arith, three a b c, three x y z, e, s, t) in
    ap (λ v. v ∷ b ∷ c ∷ []) s ∙ ap (λ v. x ∷ v ∷ c ∷ []) t ∙ ap (λ v. x ∷ y ∷ v ∷ []) u
key_tells (a ∷ b ∷ c ∷ d ∷ ns) ms ln lm wn wm e = absurd (omega (arith, ln))
key_tells ns (a ∷ b ∷ c ∷ d ∷ ms) ln lm wn wm e = absurd (omega (arith, lm))

-- a part is the whole, or one of the listed ones
abbrev IsListed : List ℕ → List ℕ → Type 0
IsListed ns ms = (ns ≡ ms) ⊎ ((m : ℕ) × (slice_get (other_parts ms) m ≡ Some ns))

pub listed : (ns ms : List ℕ) → Leaves ns ms → length ms ≤ 3 → IsListed ns ms
listed [] [] h l = inl refl
listed [] (a ∷ []) h l = inr (0, refl)
listed [] (a ∷ b ∷ []) h l = inr (0, refl)
listed [] (a ∷ b ∷ c ∷ []) h l = inr (0, refl)
listed (n ∷ ns) [] h l = absurd h
listed (n ∷ []) (a ∷ []) (inl (e, h)) l = inl (ap (λ v. v ∷ []) e)
listed (n ∷ k ∷ ns) (a ∷ []) (inl (e, h)) l = absurd h
listed (n ∷ ns) (a ∷ []) (inr h) l = absurd h
listed (n ∷ []) (a ∷ b ∷ []) (inl (e, h)) l = inr (1, ap (λ v. Some (v ∷ [])) (sym e))
listed (n ∷ k ∷ []) (a ∷ b ∷ []) (inl (e, inl (f, h))) l = inl (ap (λ v. v ∷ k ∷ []) e ∙ ap (λ v. a ∷ v ∷ []) f)
listed (n ∷ k ∷ j ∷ ns) (a ∷ b ∷ []) (inl (e, inl (f, h))) l = absurd h
listed (n ∷ k ∷ ns) (a ∷ b ∷ []) (inl (e, inr h)) l = absurd h
listed (n ∷ []) (a ∷ b ∷ []) (inr (inl (e, h))) l = inr (2, ap (λ v. Some (v ∷ [])) (sym e))
listed (n ∷ k ∷ ns) (a ∷ b ∷ []) (inr (inl (e, h))) l = absurd h
listed (n ∷ ns) (a ∷ b ∷ []) (inr (inr h)) l = absurd h
listed (n ∷ []) (a ∷ b ∷ c ∷ []) (inl (e, h)) l = inr (1, ap (λ v. Some (v ∷ [])) (sym e))
listed (n ∷ k ∷ []) (a ∷ b ∷ c ∷ []) (inl (e, inl (f, h))) l = inr (4, ap (λ v. Some (v ∷ b ∷ [])) (sym e) ∙ ap (λ v. Some (n ∷ v ∷ [])) (sym f))
listed (n ∷ k ∷ j ∷ []) (a ∷ b ∷ c ∷ []) (inl (e, inl (f, inl (g, h)))) l =
    inl (ap (λ v. v ∷ k ∷ j ∷ []) e ∙ ap (λ v. a ∷ v ∷ j ∷ []) f ∙ ap (λ v. a ∷ b ∷ v ∷ []) g)
listed (n ∷ k ∷ j ∷ i ∷ ns) (a ∷ b ∷ c ∷ []) (inl (e, inl (f, inl (g, h)))) l = absurd h
listed (n ∷ k ∷ j ∷ ns) (a ∷ b ∷ c ∷ []) (inl (e, inl (f, inr h))) l = absurd h
listed (n ∷ k ∷ []) (a ∷ b ∷ c ∷ []) (inl (e, inr (inl (f, h)))) l = inr (5, ap (λ v. Some (v ∷ c ∷ [])) (sym e) ∙ ap (λ v. Some (n ∷ v ∷ [])) (sym f))
listed (n ∷ k ∷ j ∷ ns) (a ∷ b ∷ c ∷ []) (inl (e, inr (inl (f, h)))) l = absurd h
listed (n ∷ k ∷ ns) (a ∷ b ∷ c ∷ []) (inl (e, inr (inr h))) l = absurd h
listed (n ∷ []) (a ∷ b ∷ c ∷ []) (inr (inl (e, h))) l = inr (2, ap (λ v. Some (v ∷ [])) (sym e))
listed (n ∷ k ∷ []) (a ∷ b ∷ c ∷ []) (inr (inl (e, inl (f, h)))) l = inr (6, ap (λ v. Some (v ∷ c ∷ [])) (sym e) ∙ ap (λ v. Some (n ∷ v ∷ [])) (sym f))
listed (n ∷ k ∷ j ∷ ns) (a ∷ b ∷ c ∷ []) (inr (inl (e, inl (f, h)))) l = absurd h
listed (n ∷ k ∷ ns) (a ∷ b ∷ c ∷ []) (inr (inl (e, inr h))) l = absurd h
listed (n ∷ []) (a ∷ b ∷ c ∷ []) (inr (inr (inl (e, h)))) l = inr (3, ap (λ v. Some (v ∷ [])) (sym e))
listed (n ∷ k ∷ ns) (a ∷ b ∷ c ∷ []) (inr (inr (inl (e, h)))) l = absurd h
listed (n ∷ ns) (a ∷ b ∷ c ∷ []) (inr (inr (inr h))) l = absurd h
listed ns (a ∷ b ∷ c ∷ d ∷ ms) h l = absurd (omega (arith, l))

-- each of the listed ones leaves numbers out
here : {p : List ℕ} {ns : List ℕ} (ms : List ℕ) → Some ns ≡ Some p → Leaves ns ms → Leaves p ms
here {p} {ns} ms e h = let same : ns ≡ p = cc in subst (λ xs. Leaves xs ms) same h

pub listed_leaves : (ms : List ℕ) → length ms ≤ 3 → (m : ℕ) (p : List ℕ) → slice_get (other_parts ms) m ≡ Some p → Leaves p ms
listed_leaves [] l m p at = absurd (let bad : None ≡ Some p = at in cc)
listed_leaves (a ∷ []) l zero p at = here (a ∷ []) at tt
listed_leaves (a ∷ []) l (suc m) p at = absurd (let bad : None ≡ Some p = at in cc)
listed_leaves (a ∷ b ∷ []) l zero p at = here (a ∷ b ∷ []) at tt
listed_leaves (a ∷ b ∷ []) l (suc zero) p at = here (a ∷ b ∷ []) at (inl (refl, tt))
listed_leaves (a ∷ b ∷ []) l (suc (suc zero)) p at = here (a ∷ b ∷ []) at (inr (inl (refl, tt)))
listed_leaves (a ∷ b ∷ []) l (suc (suc (suc m))) p at = absurd (let bad : None ≡ Some p = at in cc)
listed_leaves (a ∷ b ∷ c ∷ []) l zero p at = here (a ∷ b ∷ c ∷ []) at tt
listed_leaves (a ∷ b ∷ c ∷ []) l (suc zero) p at = here (a ∷ b ∷ c ∷ []) at (inl (refl, tt))
listed_leaves (a ∷ b ∷ c ∷ []) l (suc (suc zero)) p at = here (a ∷ b ∷ c ∷ []) at (inr (inl (refl, tt)))
listed_leaves (a ∷ b ∷ c ∷ []) l (suc (suc (suc zero))) p at = here (a ∷ b ∷ c ∷ []) at (inr (inr (inl (refl, tt))))
listed_leaves (a ∷ b ∷ c ∷ []) l (suc (suc (suc (suc zero)))) p at = here (a ∷ b ∷ c ∷ []) at (inl (refl, inl (refl, tt)))
listed_leaves (a ∷ b ∷ c ∷ []) l (suc (suc (suc (suc (suc zero))))) p at = here (a ∷ b ∷ c ∷ []) at (inl (refl, inr (inl (refl, tt))))
listed_leaves (a ∷ b ∷ c ∷ []) l (suc (suc (suc (suc (suc (suc zero)))))) p at = here (a ∷ b ∷ c ∷ []) at (inr (inl (refl, inl (refl, tt))))
listed_leaves (a ∷ b ∷ c ∷ []) l (suc (suc (suc (suc (suc (suc (suc m))))))) p at = absurd (let bad : None ≡ Some p = at in cc)
listed_leaves (a ∷ b ∷ c ∷ d ∷ ms) l m p at = absurd (omega (arith, l))

-- numbers each of which is not above the next
abbrev Climbs : ℕ → List ℕ → Type 0
Climbs x [] = Unit {0}
Climbs x (y ∷ ys) = (x ≤ y) × Climbs y ys

climbs_above : (x : ℕ) (ys : List ℕ) → Climbs x ys → (j y : ℕ) → slice_get ys j ≡ Some y → x ≤ y
climbs_above x [] h j y at = absurd (let bad : None ≡ Some y = at in cc)
climbs_above x (z ∷ ys) h zero y at = let same : Some z ≡ Some y = at in let e : z ≡ y = cc in let le = h.0 in omega (arith, e, le)
climbs_above x (z ∷ ys) h (suc j) y at = let le = h.0 in let up = climbs_above z ys h.1 j y at in omega (arith, le, up)

climbs_ordered : (x : ℕ) (ys : List ℕ) → Climbs x ys → (i j a b : ℕ) → i ≤ j → slice_get (x ∷ ys) i ≡ Some a → slice_get (x ∷ ys) j ≡ Some b → a ≤ b
climbs_ordered x ys h zero zero a b le at bt = let s : Some x ≡ Some a = at in let t : Some x ≡ Some b = bt in let e : a ≡ b = cc in omega (arith, e)
climbs_ordered x ys h zero (suc j) a b le at bt = let s : Some x ≡ Some a = at in let e : x ≡ a = cc in let up = climbs_above x ys h j b bt in omega (arith, e, up)
climbs_ordered x ys h (suc i) zero a b le at bt = absurd (omega (arith, le))
climbs_ordered x [] h (suc i) (suc j) a b le at bt = absurd (let bad : None ≡ Some a = at in cc)
climbs_ordered x (y ∷ ys) h (suc i) (suc j) a b le at bt = climbs_ordered y ys h.1 i j a b (omega (arith, le)) at bt

-- the keys of the listed parts rise
pub part_keys_rise : (ms : List ℕ) → length ms ≤ 3 → AreRising ms → AreWords ms → (i j a b : ℕ) → i ≤ j
    → slice_get (part_keys ms) i ≡ Some a → slice_get (part_keys ms) j ≡ Some b → a ≤ b
part_keys_rise [] l r w i j a b le at bt = absurd (let bad : None ≡ Some a = at in cc)
part_keys_rise (x ∷ []) l r w i j a b le at bt = climbs_ordered (key_of []) [] tt i j a b le at bt
part_keys_rise (x ∷ y ∷ []) l r w i j a b le at bt =
    let xy = r 0 1 x y (omega arith) refl refl in
    climbs_ordered (key_of []) (key_of (x ∷ []) ∷ key_of (y ∷ []) ∷ []) (omega (arith, none, one x), (omega (arith, one x, one y, xy), tt)) i j a b le at bt
part_keys_rise (x ∷ y ∷ z ∷ []) l r w i j a b le at bt =
    let xy = r 0 1 x y (omega arith) refl refl in
    let yz = r 1 2 y z (omega arith) refl refl in
    let lz = w 2 z refl in
    climbs_ordered (key_of []) (key_of (x ∷ []) ∷ key_of (y ∷ []) ∷ key_of (z ∷ []) ∷ key_of (x ∷ y ∷ []) ∷ key_of (x ∷ z ∷ []) ∷ key_of (y ∷ z ∷ []) ∷ []) (
      omega (arith, none, one x),
      (
        omega (arith, one x, one y, xy),
        (
          omega (arith, one y, one z, yz),
          (
            omega (arith, one z, two x y, lz),
            (omega (arith, two x y, two x z, yz), (omega (arith, two x z, two y z, xy), tt)),
          ),
        ),
      ),
    ) i j a b le at bt
part_keys_rise (a ∷ b ∷ c ∷ d ∷ ms) l r w i j x y le at bt = absurd (omega (arith, l))
