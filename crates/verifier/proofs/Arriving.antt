-- States that arrive at the slots of a table.
use Rattle.std.proofs.Common.{◌≡◌, ◌<◌, ◌+◌, ℕ, zero, suc, map, take, Bool, true, false, List, [], ◌∷◌, ◌++◌, length, get_or, Option, Some, None, refl, sym, ◌∙◌, inl, inr, arith, subst, ap}
use Rattle.std.specs.Prelude.{set}
use Rattle.std.specs.List.{fold}
use Rattle.std.proofs.lemmas.Bool.{cases_eq, cases_Bool}
use Rattle.std.proofs.lemmas.List.Sums.{fold-append}
use Rattle.std.proofs.lemmas.List.{length-set, set-get_or, get_or-set_same, get_or-set_other, take_more, map-append}
use Rattle.ranges.specs.States.{Abstract}
use Rattle.ranges.specs.Order.{IsState, Each, Holds}
use Rattle.ranges.proofs.Fitting.{join_state_fits}
use Rattle.verifier.specs.Tables.{state_at, Covers, CoversAll, AreStates}
use Rattle.verifier.specs.Rounds.{join_arrival, receive}
use Rattle.verifier.specs.Passing.{Arrive, Arrived}
use Rattle.verifier.proofs.Chains.{contains_other, contains_more, contains_self}

joined_fits : (m : Option Abstract) (s : Abstract) → Holds IsState m → IsState s → IsState (join_arrival m s)
joined_fits None s h a = a
joined_fits (Some t) s h a = join_state_fits t s h a

joined_covers : (m : Option Abstract) (s : Abstract) → Holds IsState m → IsState s → Covers (Some (join_arrival m s)) s
joined_covers None s h a = contains_self s a
joined_covers (Some t) s h a = contains_other t s h a

joined_keeps : (m : Option Abstract) (s x : Abstract) → Holds IsState m → IsState s → IsState x → Covers m x → Covers (Some (join_arrival m s)) x
joined_keeps None s x h a b c = absurd c
joined_keeps (Some t) s x h a b c = contains_more t s x h a b c

-- what is known after an arrival: at its slot, and at the others
pub here : (table : List (Option Abstract)) (p : ℕ × Abstract) → p.0 < length table → state_at (receive table p) p.0 ≡ Some (join_arrival (state_at table p.0) p.1)
here table p inside = get_or-set_same table p.0 (Some (join_arrival (state_at table p.0) p.1)) None inside

pub elsewhere : (table : List (Option Abstract)) (p : ℕ × Abstract) (slot : ℕ) → (slot ≡ p.0 → ⊥) → state_at (receive table p) slot ≡ state_at table slot
elsewhere table p slot other = get_or-set_other table p.0 slot (Some (join_arrival (state_at table p.0) p.1)) None other

pub receive_long : (table : List (Option Abstract)) (p : ℕ × Abstract) → length (receive table p) ≡ length table
receive_long table p = length-set table p.0 (Some (join_arrival (state_at table p.0) p.1))

pub receive_fits : (table : List (Option Abstract)) (p : ℕ × Abstract) → p.0 < length table → AreStates table → IsState p.1 → AreStates (receive table p)
receive_fits table p inside h a slot =
    elim (cases_eq slot p.0) [
      | inl same ↦ rw (same, here table p inside) (joined_fits (state_at table p.0) p.1 (h p.0) a)
      | inr other ↦ rw (elsewhere table p slot other) (h slot)
    ]

pub receive_covers : (table : List (Option Abstract)) (p : ℕ × Abstract) → p.0 < length table → AreStates table → IsState p.1 → Covers (state_at (receive table p) p.0) p.1
receive_covers table p inside h a = rw (here table p inside) (joined_covers (state_at table p.0) p.1 (h p.0) a)

pub receive_keeps : (table : List (Option Abstract)) (p : ℕ × Abstract) (slot : ℕ) (x : Abstract) → p.0 < length table → AreStates table → IsState p.1 → IsState x
    → Covers (state_at table slot) x → Covers (state_at (receive table p) slot) x
receive_keeps table p slot x inside h a b c =
    elim (cases_eq slot p.0) [
      | inl same ↦
          let there : Covers (state_at table p.0) x = rw same at c in
          rw (same, here table p inside) (joined_keeps (state_at table p.0) p.1 x (h p.0) a b there)
      | inr other ↦ rw (elsewhere table p slot other) c
    ]

-- the same, where several arrive
pub all_long : (table : List (Option Abstract)) (ps : List (ℕ × Abstract)) → length (fold receive table ps) ≡ length table
all_long table [] = refl
all_long table (p ∷ ps) = all_long (receive table p) ps ∙ receive_long table p

pub still : (table : List (Option Abstract)) (p : ℕ × Abstract) (ps : List (ℕ × Abstract)) → Arrive (length table) ps → Arrive (length (receive table p)) ps
still table p ps a = rw (receive_long table p) a

pub all_fit : (table : List (Option Abstract)) (ps : List (ℕ × Abstract)) → AreStates table → Arrive (length table) ps → AreStates (fold receive table ps)
all_fit table [] h a = h
all_fit table (p ∷ ps) h a = all_fit (receive table p) ps (receive_fits table p a.0.0 h a.0.1) (still table p ps a.1)

pub all_keep : (table : List (Option Abstract)) (ps : List (ℕ × Abstract)) (slot : ℕ) (x : Abstract) → AreStates table → Arrive (length table) ps → IsState x
    → Covers (state_at table slot) x → Covers (state_at (fold receive table ps) slot) x
all_keep table [] slot x h a b c = c
all_keep table (p ∷ ps) slot x h a b c =
    all_keep (receive table p) ps slot x (receive_fits table p a.0.0 h a.0.1) (still table p ps a.1) b (receive_keeps table p slot x a.0.0 h a.0.1 b c)

pub all_covered : (table : List (Option Abstract)) (ps : List (ℕ × Abstract)) → AreStates table → Arrive (length table) ps → CoversAll (fold receive table ps) ps
all_covered table [] h a = tt
all_covered table (p ∷ ps) h a =
    let fits = receive_fits table p a.0.0 h a.0.1 in (
      all_keep (receive table p) ps p.0 p.1 fits (still table p ps a.1) a.0.1 (receive_covers table p a.0.0 h a.0.1),
      all_covered (receive table p) ps fits (still table p ps a.1),
    )

-- where all that arrives changes nothing, all was covered
pub same_covers : (table : List (Option Abstract)) (ps : List (ℕ × Abstract)) → AreStates table → Arrive (length table) ps → fold receive table ps ≡ table → CoversAll table ps
same_covers table ps h a e = subst (λ t. CoversAll t ps) e (all_covered table ps h a)

-- a state that is contained in what is known changes nothing
pub covered_same : (table : List (Option Abstract)) (p : ℕ × Abstract) → Covers (state_at table p.0) p.1 → receive table p ≡ table
covered_same table p c = by_known (state_at table p.0) refl c
  where
    by_known : (m : Option Abstract) → state_at table p.0 ≡ m → Covers m p.1 → set table p.0 (Some (join_arrival m p.1)) ≡ table
    by_known None e c = absurd c
    by_known (Some s) e c = rw (c, ← e) (set-get_or table p.0 None)

-- all that arrived, and one more

pub covers_init : (table : List (Option Abstract)) (ps qs : List (ℕ × Abstract)) → CoversAll table (ps ++ qs) → CoversAll table ps
covers_init table [] qs h = tt
covers_init table (p ∷ ps) qs h = (h.0, covers_init table ps qs h.1)

pub covers_last : (table : List (Option Abstract)) (ps qs : List (ℕ × Abstract)) → CoversAll table (ps ++ qs) → CoversAll table qs
covers_last table [] qs h = h
covers_last table (p ∷ ps) qs h = covers_last table ps qs h.1

pub covers_both : (table : List (Option Abstract)) (ps qs : List (ℕ × Abstract)) → CoversAll table ps → CoversAll table qs → CoversAll table (ps ++ qs)
covers_both table [] qs g h = h
covers_both table (p ∷ ps) qs g h = (g.0, covers_both table ps qs g.1 h)

arrived_table : (old now new : List (Option Abstract)) (ps : List (ℕ × Abstract)) (p : ℕ × Abstract) → now ≡ fold receive old ps → new ≡ receive now p
    → new ≡ fold receive old (ps ++ p ∷ [])
arrived_table old now new ps p a b = b ∙ ap (λ t. receive t p) a ∙ sym (fold-append receive old ps (p ∷ []))

-- one that was contained in what was known
pub arrived_known : (old now new : List (Option Abstract)) (ps : List (ℕ × Abstract)) (p : ℕ × Abstract) (more : Bool)
    → Arrived old ps now more → Arrived now (p ∷ []) new false → Arrived old (ps ++ p ∷ []) new more
arrived_known old now new ps p more a b = record {
  table = arrived_table old now new ps p a.table b.table;
  left_out = λ t all. a.left_out t (covers_init old ps (p ∷ []) all);
  same = λ f. b.same refl ∙ a.same f;
  covered = λ f. covers_both old ps (p ∷ []) (a.covered f) (subst (λ t. CoversAll t (p ∷ [])) (a.same f) (b.covered refl));
}

-- one that wasn't
pub arrived_new : (old now new : List (Option Abstract)) (ps : List (ℕ × Abstract)) (p : ℕ × Abstract) (more : Bool)
    → Arrived old ps now more → Arrived now (p ∷ []) new true → Arrived old (ps ++ p ∷ []) new true
arrived_new old now new ps p more a b = record {
  table = arrived_table old now new ps p a.table b.table;
  left_out = λ _ all. elim (cases_Bool more) [
    | inl t ↦ a.left_out t (covers_init old ps (p ∷ []) all)
    | inr f ↦ b.left_out refl (subst (λ t. CoversAll t (p ∷ [])) (sym (a.same f)) (covers_last old ps (p ∷ []) all))
  ];
  same = λ f. absurd (let bad : true ≡ false = f in cc);
  covered = λ f. absurd (let bad : true ≡ false = f in cc);
}

-- the elements of a list, one by one

pub each_at : {X Y : Type 0} (P : Y → Type 0) (f : X → Y) (xs : List X) (k : ℕ) (x : X) → k < length xs → x ≡ get_or xs k x → Each P (map f xs) → P (f x)
each_at P f [] k x inside e h = absurd (omega (arith, inside))
each_at P f (y ∷ ys) zero x inside e h = rw e h.0
each_at P f (y ∷ ys) (suc k) x inside e h = each_at P f ys k x (omega (arith, inside)) e h.1

pub mapped_more : {X Y : Type 0} (f : X → Y) (xs : List X) (k : ℕ) (x : X) → k < length xs → x ≡ get_or xs k x → map f (take (k + 1) xs) ≡ map f (take k xs) ++ f x ∷ []
mapped_more f xs k x inside e =
    ap (λ t. map f t) (take_more xs k x inside) ∙ map-append f (take k xs) (get_or xs k x ∷ []) ∙ ap (λ t. map f (take k xs) ++ f t ∷ []) (sym e)
