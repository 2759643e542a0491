-- The window of a case, in the order of its parts.
use Rattle.std.proofs.Common.{ℕ, zero, suc, ◌≡◌, ◌+◌, ◌<◌, ◌≤◌, nat_lt, nat_le, max, Bool, true, false, ◌⊎◌, if◌then◌else◌, List, [], ◌∷◌, ◌++◌, length, filter, find, reverse, Option, None, Some, MatchOption, refl, sym, subst, ◌∙◌, ap, arith, inl, inr}
use Rattle.std.specs.Option.{option_map}
use Rattle.std.proofs.lemmas.Bool.Decides.{eqb_tells, nat_tests}
use Rattle.std.proofs.lemmas.Int.{clamps}
use Rattle.std.proofs.lemmas.List.{reverse-append}
use Rattle.std.proofs.lemmas.Option.{slice_get_cases, same_Some}
use Rattle.logfmt.specs.declared.entry.Entry.{Entry}
use Rattle.epochs.specs.declared.part.Part.{Part}
use Rattle.epochs.specs.declared.part.By.{By}
use Rattle.epochs.specs.Parts.{part_of, part_count, parts_of_entry, parts_before}
use Rattle.epochs.proofs.Growth.{parts_before-next}
use Rattle.cases.specs.Risk.{is_at_risk, parts_at_risk}
use Rattle.cases.specs.Cases.{Case}
use Rattle.cases.specs.Laws.{IsAmong}
use Rattle.cases.specs.AtCut.{CutValue, parts_of}
use Rattle.cases.proofs.Cases.{among_kept}
use Rattle.cases.proofs.Rows.{among_range, part_before}
use Rattle.case_text.specs.Known.{is_never_whole, is_never_gone, entry_where, first_lost, last_arrived}
use Rattle.case_text.specs.Window.{stays, last_below, last_staying, later, between}
use Rattle.case_text.specs.Laws.{IsThere, IsWindow, HasNoWindow, WindowIsTold}
use Rattle.case_text.proofs.Taking.{among_both, turned_among, risky_told}

-- the entries of some parts rise, and of some others fall
pub Rising : List Part → Type 0
Rising [] = Unit {0}
Rising (p ∷ ps) = ((q : Part) → IsAmong ps q → p.entry ≤ q.entry) × Rising ps

pub Falling : List Part → Type 0
Falling [] = Unit {0}
Falling (p ∷ ps) = ((q : Part) → IsAmong ps q → q.entry ≤ p.entry) × Falling ps

rising_both : (ps qs : List Part) → Rising ps → Rising qs → ((p q : Part) → IsAmong ps p → IsAmong qs q → p.entry ≤ q.entry) → Rising (ps ++ qs)
unfolding Rising
rising_both [] qs one two cross = two
rising_both (p ∷ ps) qs one two cross = (
  (λ q among. elim (among_both ps qs q among) [ inl early ↦ one.0 q early | inr late ↦ cross p q (inl refl) late ]),
  rising_both ps qs one.1 two (λ r q early late. cross r q (inr early) late),
)

falling_last : (ps : List Part) (p : Part) → Falling ps → ((q : Part) → IsAmong ps q → p.entry ≤ q.entry) → Falling (ps ++ p ∷ [])
unfolding Falling
falling_last [] p fall low = ((λ q among. absurd among), tt)
falling_last (r ∷ ps) p fall low = (
  (λ q among. elim (among_both ps (p ∷ []) q among) [ inl early ↦ fall.0 q early | inr late ↦ last q late ]),
  falling_last ps p fall.1 (λ q among. low q (inr among)),
)
  where
    last : (q : Part) → (p ≡ q) ⊎ ⊥ → q.entry ≤ r.entry
    last q (inl same) = let own = ap (λ (x : Part). x.entry) same in let above = low r (inl refl) in omega (arith, own, above)
    last q (inr none) = absurd none

pub falling_turned : (ps : List Part) → Rising ps → Falling (reverse ps)
unfolding Rising Falling
falling_turned [] rise = tt
falling_turned (p ∷ ps) rise =
    subst Falling (sym (reverse-append (p ∷ []) ps)) (falling_last (reverse ps) p (falling_turned ps rise.1) (λ q among. rise.0 q (turned_among ps q among)))

rising_kept : (test : Part → Bool) (ps : List Part) → Rising ps → Rising (filter test ps)
unfolding Rising
rising_kept test [] rise = tt
rising_kept test (p ∷ ps) rise = by_test (rising_kept test ps rise.1) (test p)
  where
    by_test : Rising (filter test ps) → (b : Bool) → Rising (if b then p ∷ filter test ps else filter test ps)
    by_test rest true = ((λ q among. rise.0 q (among_kept test ps q among).0), rest)
    by_test rest false = rest

-- those of an entry have the same
rising_range : (way : By) (e : ℕ) (x : Entry) (ps : List Part) → ((q : Part) → IsAmong ps q → q.entry ≡ e) → Rising ps
unfolding Rising
rising_range way e x [] same = tt
rising_range way e x (p ∷ ps) same =
    ((λ q among. let one = same p (inl refl) in let two = same q (inr among) in omega (arith, one, two)), rising_range way e x ps (λ q among. same q (inr among)))

rising_before : (way : By) (es : List Entry) (k : ℕ) → k ≤ length es → Rising (parts_before way es k)
unfolding Rising
rising_before way es zero le = tt
rising_before way es (suc k) le = elim (slice_get_cases es k).1 [
  | inr past ↦ let end = past.0 in absurd (omega (arith, end, le))
  | inl a ↦
      let own : (q : Part) → IsAmong (parts_of_entry way k a.0) q → q.entry ≡ k = λ q among. sym (ap (λ (r : Part). r.entry) (among_range (part_of way k a.0) 0 (part_count way a.0) q among).3) in
      subst Rising (sym (parts_before-next way es k a.0 a.2))
      (rising_both (parts_before way es k) (parts_of_entry way k a.0) (rising_before way es k (omega (arith, le))) (rising_range way k a.0 (parts_of_entry way k a.0) own)
      (λ p q early late.
      let was = part_before way es k p (omega (arith, le)) early in
      let first : was.entry ≡ p.entry = ap (λ (r : Part). r.entry) was.is in
      let less = was.before in
      let second = own q late in
      omega (arith, first, second, less)))
]

pub rising_risky : (way : By) (es : List Entry) (k : ℕ) → k ≤ length es → Rising (parts_at_risk way es k)
unfolding parts_at_risk
rising_risky way es k le = rising_kept (λ (p : Part). is_at_risk es k p.entry) (parts_before way es k) (rising_before way es k le)

-- where a test holds first, of some parts
pub record IsFirstOf (test : Part → Bool) (parts : List Part) (e : ℕ) : Type 0 where
  pub part : Part
  pub among : IsAmong parts part
  pub passes : test part ≡ true
  pub entry : part.entry ≡ e

pub first_found : (test : Part → Bool) (parts : List Part) (e : ℕ) → entry_where test parts ≡ Some e → IsFirstOf test parts e
first_found test [] e is = absurd (let bad : None ≡ Some e = is in cc)
first_found test (q ∷ parts) e is = by_test (first_found test parts e) (test q) refl is
  where
    by_test : (entry_where test parts ≡ Some e → IsFirstOf test parts e) → (b : Bool) → test q ≡ b
        → option_map (λ (p : Part). p.entry) (if b then Some q else find test parts) ≡ Some e → IsFirstOf test (q ∷ parts) e
    by_test told true passes some = record { part = q; among = inl refl; passes = passes; entry = same_Some q.entry e some }
    by_test told false fails rest = let it = told rest in record { part = it.part; among = inr it.among; passes = it.passes; entry = it.entry }

pub no_first : (test : Part → Bool) (parts : List Part) (p : Part) → entry_where test parts ≡ None → IsAmong parts p → test p ≡ true → ⊥
no_first test [] p none among is = among
no_first test (q ∷ parts) p none among is = by_test (no_first test parts p) (test q) refl none among
  where
    by_test : (entry_where test parts ≡ None → IsAmong parts p → test p ≡ true → ⊥) → (b : Bool) → test q ≡ b
        → option_map (λ (r : Part). r.entry) (if b then Some q else find test parts) ≡ None → (q ≡ p) ⊎ IsAmong parts p → ⊥
    by_test told true passes some either = absurd (let bad : Some q.entry ≡ None = some in cc)
    by_test told false fails rest (inl same) = absurd (let bad : true ≡ false = sym is ∙ ap test (sym same) ∙ fails in cc)
    by_test told false fails rest (inr late) = told rest late is

pub earliest : (test : Part → Bool) (parts : List Part) (e : ℕ) (p : Part) → Rising parts → entry_where test parts ≡ Some e → IsAmong parts p → test p ≡ true → e ≤ p.entry
unfolding Rising
earliest test [] e p rise some among is = absurd among
earliest test (q ∷ parts) e p rise some among is = by_test (earliest test parts e p rise.1) (test q) refl some among
  where
    by_test : (entry_where test parts ≡ Some e → IsAmong parts p → test p ≡ true → e ≤ p.entry) → (b : Bool) → test q ≡ b
        → option_map (λ (r : Part). r.entry) (if b then Some q else find test parts) ≡ Some e → (q ≡ p) ⊎ IsAmong parts p → e ≤ p.entry
    by_test told true passes here (inl same) = let own = same_Some q.entry e here in let one = ap (λ (r : Part). r.entry) same in omega (arith, own, one)
    by_test told true passes here (inr late) = let own = same_Some q.entry e here in let low = rise.0 p late in omega (arith, own, low)
    by_test told false fails rest (inl same) = absurd (let bad : true ≡ false = sym is ∙ ap test (sym same) ∙ fails in cc)
    by_test told false fails rest (inr late) = told rest late is

pub latest : (test : Part → Bool) (parts : List Part) (e : ℕ) (p : Part) → Falling parts → entry_where test parts ≡ Some e → IsAmong parts p → test p ≡ true → p.entry ≤ e
unfolding Falling
latest test [] e p fall some among is = absurd among
latest test (q ∷ parts) e p fall some among is = by_test (latest test parts e p fall.1) (test q) refl some among
  where
    by_test : (entry_where test parts ≡ Some e → IsAmong parts p → test p ≡ true → p.entry ≤ e) → (b : Bool) → test q ≡ b
        → option_map (λ (r : Part). r.entry) (if b then Some q else find test parts) ≡ Some e → (q ≡ p) ⊎ IsAmong parts p → p.entry ≤ e
    by_test told true passes here (inl same) = let own = same_Some q.entry e here in let one = ap (λ (r : Part). r.entry) same in omega (arith, own, one)
    by_test told true passes here (inr late) = let own = same_Some q.entry e here in let low = fall.0 p late in omega (arith, own, low)
    by_test told false fails rest (inl same) = absurd (let bad : true ≡ false = sym is ∙ ap test (sym same) ∙ fails in cc)
    by_test told false fails rest (inr late) = told rest late is

-- among the parts turned round, too
pub turned_back : (ps : List Part) (p : Part) → IsAmong ps p → IsAmong (reverse ps) p
turned_back [] p among = among
turned_back (q ∷ ps) p (inl same) =
    subst (λ zs. IsAmong zs p) (sym (reverse-append (q ∷ []) ps)) (Rattle.cases.proofs.Rows.among_append_right (reverse ps) (q ∷ []) p (inl same))
turned_back (q ∷ ps) p (inr late) =
    subst (λ zs. IsAmong zs p) (sym (reverse-append (q ∷ []) ps)) (Rattle.cases.proofs.Rows.among_append_left (reverse ps) (q ∷ []) p (turned_back ps p late))

-- the last number below n for which a test holds
record IsLastBelow (test : ℕ → Bool) (n e : ℕ) : Type 0 where
  below : e < n
  passes : test e ≡ true
  after : (i : ℕ) → e < i → i < n → test i ≡ false

last_told : (test : ℕ → Bool) (n e : ℕ) → last_below test n ≡ Some e → IsLastBelow test n e
last_told test zero e is = absurd (let bad : None ≡ Some e = is in cc)
last_told test (suc n) e is = by_test (last_told test n e) (test n) refl is
  where
    by_test : (last_below test n ≡ Some e → IsLastBelow test n e) → (b : Bool) → test n ≡ b → (if b then Some n else last_below test n) ≡ Some e → IsLastBelow test (suc n) e
    by_test told true passes some =
        let same : n ≡ e = same_Some n e some in
        record { below = omega (arith, same); passes = ap test (sym same) ∙ passes; after = λ i low high. absurd (omega (arith, same, low, high)) }
    by_test told false fails rest =
        let it = told rest in
        let less = it.below in
        record {
          below = omega (arith, less);
          passes = it.passes;
          after = λ i low high. elim (eqb_tells i n) [
            | inl same ↦ ap test same.1 ∙ fails
            | inr other ↦ let apart = other.1 in it.after i low (omega (arith, apart, high))
          ];
        }

none_told : (test : ℕ → Bool) (n : ℕ) → last_below test n ≡ None → (i : ℕ) → i < n → test i ≡ false
none_told test zero is i high = absurd (omega (arith, high))
none_told test (suc n) is i high = by_test (none_told test n) (test n) refl is
  where
    by_test : (last_below test n ≡ None → (i : ℕ) → i < n → test i ≡ false) → (b : Bool) → test n ≡ b → (if b then Some n else last_below test n) ≡ None → test i ≡ false
    by_test told true passes some = absurd (let bad : Some n ≡ None = some in cc)
    by_test told false fails rest = elim (eqb_tells i n) [
      | inl same ↦ ap test same.1 ∙ fails
      | inr other ↦ let apart = other.1 in told rest i (omega (arith, apart, high))
    ]

-- the entry with which a window ends, if it has one
record IsEnd (at : CutValue) (c : Case) (l : ℕ) : Type 0 where
  there : IsThere at c l
  below : l < at.cut
  after : (e : ℕ) → l < e → e < at.cut → ¬ (IsThere at c e)

Ends : CutValue → Case → Option ℕ → Type 0
Ends at c last = MatchOption last ((e : ℕ) → e < at.cut → ¬ (IsThere at c e)) (IsEnd at c)

ends_told : (at : CutValue) (c : Case) → at.cut ≤ length at.log.entries → Ends at c (later (last_staying at) (last_arrived c (parts_of at)))
unfolding Ends
ends_told at c within = by_both (last_staying at) (last_arrived c (parts_of at)) refl refl
  where
    early : (q : Part) → IsAmong (parts_of at) q → q.entry < at.cut
    early q among =
        let told = part_before at.way at.log.entries at.cut q within (risky_told at.way at.log.entries at.cut q among).0 in
        let own : told.entry ≡ q.entry = ap (λ (r : Part). r.entry) told.is in
        let less = told.before in
        omega (arith, less, own)

    turned : Falling (reverse (parts_of at))
    turned = falling_turned (parts_of at) (rising_risky at.way at.log.entries at.cut within)

    arrived : (y : ℕ) → last_arrived c (parts_of at) ≡ Some y → IsThere at c y × (y < at.cut)
    arrived y is =
        let it = first_found (λ (p : Part). is_never_gone (c p)) (reverse (parts_of at)) y is in
        let among = turned_among (parts_of at) it.part it.among in
        let less = early it.part among in
        let own = it.entry in
        (inr (it.part, among, it.passes, own), omega (arith, less, own))

    no_arrival : last_arrived c (parts_of at) ≡ None → (p : Part) → IsAmong (parts_of at) p → is_never_gone (c p) ≡ true → ⊥
    no_arrival is p among passes = no_first (λ (q : Part). is_never_gone (c q)) (reverse (parts_of at)) p is (turned_back (parts_of at) p among) passes

    at_most : (y : ℕ) → last_arrived c (parts_of at) ≡ Some y → (p : Part) → IsAmong (parts_of at) p → is_never_gone (c p) ≡ true → p.entry ≤ y
    at_most y is p among passes = latest (λ (q : Part). is_never_gone (c q)) (reverse (parts_of at)) y p turned is (turned_back (parts_of at) p among) passes

    not_there : (e : ℕ) → stays at.way at.log.entries at.cut e ≡ false → ((p : Part) → IsAmong (parts_of at) p → is_never_gone (c p) ≡ true → p.entry ≡ e → ⊥) → ¬ (IsThere at c e)
    not_there e fails none (inl stands) = absurd (let bad : true ≡ false = sym stands ∙ fails in cc)
    not_there e fails none (inr part) = none part.0 part.1 part.2 part.3

    by_both : (a b : Option ℕ) → last_staying at ≡ a → last_arrived c (parts_of at) ≡ b → Ends at c (later a b)
    by_both None None one two = λ e high. not_there e (none_told (stays at.way at.log.entries at.cut) at.cut one e high) (λ p among passes own. no_arrival two p among passes)
    by_both None (Some y) one two =
        let it = arrived y two in
        record {
          there = it.0;
          below = it.1;
          after = λ e low high. not_there e (none_told (stays at.way at.log.entries at.cut) at.cut one e high)
              (λ p among passes own. let most = at_most y two p among passes in absurd (omega (arith, most, own, low)));
        }
    by_both (Some x) None one two =
        let it = last_told (stays at.way at.log.entries at.cut) at.cut x one in
        record {
          there = inl it.passes;
          below = it.below;
          after = λ e low high. not_there e (it.after e low high) (λ p among passes own. no_arrival two p among passes);
        }
    by_both (Some x) (Some y) one two = by_order (nat_le x y) refl
      where
        by_order : (b : Bool) → nat_le x y ≡ b → IsEnd at c (max x y)
        by_order true order =
            let it = last_told (stays at.way at.log.entries at.cut) at.cut x one in
            let other = arrived y two in
            let less : x ≤ y = grind (arith, nat_tests, order) in
            let most : max x y ≡ y = omega (arith, clamps, less) in
            subst (IsEnd at c) (sym most) (record {
              there = other.0;
              below = other.1;
              after = λ e low high. not_there e (it.after e (omega (arith, less, low)) high)
                  (λ p among passes own. let far = at_most y two p among passes in absurd (omega (arith, far, own, low)));
            })
        by_order false order =
            let it = last_told (stays at.way at.log.entries at.cut) at.cut x one in
            let less : y < x = grind (arith, nat_tests, order) in
            let most : max x y ≡ x = omega (arith, clamps, less) in
            subst (IsEnd at c) (sym most) (record {
              there = inl it.passes;
              below = it.below;
              after = λ e low high. not_there e (it.after e low high)
                  (λ p among passes own. let far = at_most y two p among passes in absurd (omega (arith, far, own, low, less)));
            })

pub window_is_told : WindowIsTold
unfolding Ends
window_is_told at c within = by_both (first_lost c (parts_of at)) (later (last_staying at) (last_arrived c (parts_of at))) refl (ends_told at c within)
  where
    rise : Rising (parts_of at)
    rise = rising_risky at.way at.log.entries at.cut within

    by_both : (f l : Option ℕ) → first_lost c (parts_of at) ≡ f → Ends at c l → MatchOption (between f l) (HasNoWindow at c) (IsWindow at c)
    by_both None l one ends = λ p e among passes low high there. no_first (λ (q : Part). is_never_whole (c q)) (parts_of at) p one among passes
    by_both (Some f) None one ends = λ p e among passes low high there. ends e high there
    by_both (Some f) (Some l) one ends = by_order (nat_lt f l) refl
      where
        by_order : (b : Bool) → nat_lt f l ≡ b → MatchOption (if b then Some (record { start = f + 1; end = l }) else None) (HasNoWindow at c) (IsWindow at c)
        by_order true order =
            let it = first_found (λ (q : Part). is_never_whole (c q)) (parts_of at) f one in
            let less : f < l = grind (arith, nat_tests, order) in
            let own = it.entry in
            record {
              first = it.part;
              risky = it.among;
              lost = it.passes;
              earliest = λ p among passes. let low = earliest (λ (q : Part). is_never_whole (c q)) (parts_of at) f p rise one among passes in omega (arith, own, low);
              start = omega (arith, own);
              order = omega (arith, less);
              before = ends.below;
              end = ends.there;
              last = ends.after;
            }
        by_order false order = λ p e among passes low high there.
            let first = earliest (λ (q : Part). is_never_whole (c q)) (parts_of at) f p rise one among passes in
            let less : l ≤ f = grind (arith, nat_tests, order) in
            ends.after e (omega (arith, first, less, low)) high there
