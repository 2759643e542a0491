-- Texts of cases in a row.
use Rattle.std.proofs.Common.{ℕ, zero, suc, ◌≡◌, ◌+◌, ◌-◌, ◌<◌, ◌≤◌, ◌⊎◌, inl, inr, List, [], ◌∷◌, ◌++◌, length, take, get_or, slice_get, All, Some, None, refl, sym, ◌∙◌, ap, subst, arith}
use Rattle.std.proofs.lemmas.Bool.{cases_lt}
use Rattle.std.specs.List.{sum_by}
use Rattle.std.proofs.lemmas.List.Sums.{sum_by-cons, sum_by-append}
use Rattle.join.specs.declared.fault.JoinFault.{JoinFault}
use Rattle.losses.specs.FoundCases.{most_cases}
use Rattle.join.specs.CaseTexts.{first_of, last_of}
use Rattle.join.specs.CaseReading.{CasesRead}
use Rattle.join.specs.CaseJoining.{IsOfCaseRun, Adjoins, FollowInRow, all_cases}
use Rattle.join.specs.Rows.{IsApart}
use Rattle.join.specs.CaseRows.{AreOfRunTo, NoneIsForeign, IsForeignAt, AreAdjoining, NoneIsApart, IsApartAt, IsManyAt}

-- an element that is there
pub there : (rs : List CasesRead) (k : ℕ) (d : CasesRead) → k < length rs → slice_get rs k ≡ Some (get_or rs k d)
there [] k d small = absurd (omega (arith, small))
there (r ∷ rs) zero d small = refl
there (r ∷ rs) (suc k) d small = there rs k d (omega (arith, small))

pub indexed : (rs : List CasesRead) (k : ℕ) (r : CasesRead) → k < length rs → r ≡ get_or rs k r → slice_get rs k ≡ Some r
indexed rs k r small is = there rs k r small ∙ ap (λ (x : CasesRead). Some x) (sym is)

pub one_there : (rs : List CasesRead) (k : ℕ) (a b : CasesRead) → slice_get rs k ≡ Some a → slice_get rs k ≡ Some b → a ≡ b
one_there rs k a b e f = let same : Some a ≡ Some b = sym e ∙ f in cc

pub inside_of : (rs : List CasesRead) (k : ℕ) (r : CasesRead) → slice_get rs k ≡ Some r → k < length rs
inside_of [] k r e = absurd (let bad : None ≡ Some r = e in cc)
inside_of (x ∷ rs) zero r e = omega arith
inside_of (x ∷ rs) (suc k) r e = let rest = inside_of rs k r e in omega (arith, rest)

-- the texts up to one more are of one run
pub none_alike : (rs : List CasesRead) → AreOfRunTo rs 0
none_alike rs = λ k run r small. absurd (omega (arith, small))

pub alike_more : (rs : List CasesRead) (n : ℕ) (run r : CasesRead) → AreOfRunTo rs n → slice_get rs 0 ≡ Some run → slice_get rs n ≡ Some r → IsOfCaseRun run r → AreOfRunTo rs (n + 1)
alike_more rs n run r all first at own = λ k a b small one two. by_place k a b one two (cases_lt k n) small
  where
    by_place : (k : ℕ) (a b : CasesRead) → slice_get rs 0 ≡ Some a → slice_get rs k ≡ Some b → (k < n) ⊎ (n ≤ k) → k < n + 1 → IsOfCaseRun a b
    by_place k a b one two (inl less) small = all k a b less one two
    by_place k a b one two (inr past) small =
        let same : k ≡ n = omega (arith, past, small) in
        let here : slice_get rs n ≡ Some b = rw same at two in
        let left = one_there rs 0 run a first one in
        let right = one_there rs n r b at here in
        subst (λ (x : CasesRead). IsOfCaseRun a x) right (subst (λ (x : CasesRead). IsOfCaseRun x r) left own)

pub all_alike : (rs : List CasesRead) (n : ℕ) → length rs ≤ n → AreOfRunTo rs n → NoneIsForeign rs
all_alike rs n past all = record { alike = λ m k run r small one two. let within = inside_of rs k r two in all k run r (omega (arith, past, within)) one two }

pub alike_of : (rs : List CasesRead) (run : CasesRead) → slice_get rs 0 ≡ Some run → NoneIsForeign rs → All (IsOfCaseRun run) rs
alike_of rs run first none = λ k d small. none.alike (k + 1) k run (get_or rs k d) (omega arith) first (there rs k d small)

pub alike_before : (rs : List CasesRead) (run : CasesRead) (n : ℕ) → slice_get rs 0 ≡ Some run → AreOfRunTo rs n → All (IsOfCaseRun run) (take n rs)
alike_before rs run n first all = λ k d small. let at = of_take rs n k d small in all k run (get_or (take n rs) k d) at.0 first at.1
  where
    of_take : (xs : List CasesRead) (m k : ℕ) (d : CasesRead) → k < length (take m xs) → (k < m) × (slice_get xs k ≡ Some (get_or (take m xs) k d))
    of_take xs zero k d small = absurd (omega (arith, small))
    of_take [] (suc m) k d small = absurd (omega (arith, small))
    of_take (x ∷ xs) (suc m) zero d small = (omega arith, refl)
    of_take (x ∷ xs) (suc m) (suc k) d small = let rest = of_take xs m k d (omega (arith, small)) in let less = rest.0 in (omega (arith, less), rest.1)

pub foreign_found : (rs : List CasesRead) (place : ℕ) (run r : CasesRead) → AreOfRunTo rs place → place < length rs → slice_get rs 0 ≡ Some run → slice_get rs place ≡ Some r → (IsOfCaseRun run r → ⊥) → IsForeignAt rs place
foreign_found rs place run r alike within first at foreign = record { within = within; run = run; run_there = first; read = r; there = at; alike = alike; foreign = foreign }

-- texts as they are indexed
pub alike_on : (rs : List CasesRead) (n : ℕ) (run r : CasesRead) → AreOfRunTo rs n → n < length rs → run ≡ get_or rs 0 run → r ≡ get_or rs n r → IsOfCaseRun run r → AreOfRunTo rs (n + 1)
alike_on rs n run r all small one two own = alike_more rs n run r all (indexed rs 0 run (omega (arith, small)) one) (indexed rs n r small two) own

pub foreign_at : (rs : List CasesRead) (n : ℕ) (run r : CasesRead) → AreOfRunTo rs n → n < length rs → run ≡ get_or rs 0 run → r ≡ get_or rs n r → (IsOfCaseRun run r → ⊥) → IsForeignAt rs n
foreign_at rs n run r all small one two foreign = foreign_found rs n run r all small (indexed rs 0 run (omega (arith, small)) one) (indexed rs n r small two) foreign

-- texts that adjoin up to one more
pub none_joined : (rs : List CasesRead) → AreAdjoining rs 0
none_joined rs = λ k left right small. absurd (omega (arith, small))

pub joined_more : (rs : List CasesRead) (n : ℕ) (left right : CasesRead) → AreAdjoining rs n → slice_get rs n ≡ Some left → slice_get rs (n + 1) ≡ Some right → Adjoins left right → AreAdjoining rs (n + 1)
joined_more rs n left right all at next own = λ k a b small one two. by_place k a b one two (cases_lt k n) small
  where
    by_place : (k : ℕ) (a b : CasesRead) → slice_get rs k ≡ Some a → slice_get rs (k + 1) ≡ Some b → (k < n) ⊎ (n ≤ k) → k < n + 1 → Adjoins a b
    by_place k a b one two (inl less) small = all k a b less one two
    by_place k a b one two (inr past) small =
        let same : k ≡ n = omega (arith, past, small) in
        let here : slice_get rs n ≡ Some a = rw same at one in
        let beyond : slice_get rs (n + 1) ≡ Some b = rw same at two in
        let x = one_there rs n left a at here in
        let y = one_there rs (n + 1) right b next beyond in
        subst (λ (z : CasesRead). Adjoins z b) x (subst (λ (z : CasesRead). Adjoins left z) y own)

pub all_joined : (rs : List CasesRead) (n : ℕ) → length rs ≤ n + 1 → AreAdjoining rs n → NoneIsApart rs
all_joined rs n past all = record { joined = λ m k left right small one two. let within = inside_of rs (k + 1) right two in all k left right (omega (arith, past, within)) one two }

pub apart_found : (rs : List CasesRead) (place end start : ℕ) (left right : CasesRead) (fault : JoinFault) → AreAdjoining rs place → slice_get rs place ≡ Some left → slice_get rs (place + 1) ≡ Some right
    → end ≡ last_of left.head + 1 → start ≡ first_of right.head → fault.file ≡ right.file → IsApart end start fault.cause → IsApartAt rs fault
apart_found rs place end start left right fault joined at next e1 e2 file kind = record {
  place = place;
  left = left;
  left_there = at;
  right = right;
  right_there = next;
  joined = joined;
  file = file;
  kind = subst (λ (n : ℕ). IsApart n (first_of right.head) fault.cause) e1 (subst (λ (n : ℕ). IsApart end n fault.cause) e2 kind);
}

pub joined_on : (rs : List CasesRead) (place end start : ℕ) (left right : CasesRead) → AreAdjoining rs (place - 1) → 1 ≤ place → place < length rs → left ≡ get_or rs (place - 1) left → right ≡ get_or rs place right
    → end ≡ last_of left.head + 1 → start ≡ first_of right.head → end ≡ start → AreAdjoining rs (place + 1 - 1)
joined_on rs place end start left right all low small one two e1 e2 same =
    let at = indexed rs (place - 1) left (omega (arith, low, small)) one in
    let e : place - 1 + 1 ≡ place = omega (arith, low) in
    let f : place + 1 - 1 ≡ place - 1 + 1 = omega (arith, low) in
    let next : slice_get rs (place - 1 + 1) ≡ Some right = subst (λ (n : ℕ). slice_get rs n ≡ Some right) (sym e) (indexed rs place right small two) in
    subst (λ (n : ℕ). AreAdjoining rs n) (sym f) (joined_more rs (place - 1) left right all at next (sym e1 ∙ same ∙ e2))

pub apart_at : (rs : List CasesRead) (place end start : ℕ) (left right : CasesRead) (fault : JoinFault) → AreAdjoining rs (place - 1) → 1 ≤ place → place < length rs → left ≡ get_or rs (place - 1) left
    → right ≡ get_or rs place right → end ≡ last_of left.head + 1 → start ≡ first_of right.head → fault.file ≡ right.file → IsApart end start fault.cause → IsApartAt rs fault
apart_at rs place end start left right fault all low small one two e1 e2 file kind =
    let at = indexed rs (place - 1) left (omega (arith, low, small)) one in
    let e : place - 1 + 1 ≡ place = omega (arith, low) in
    let next : slice_get rs (place - 1 + 1) ≡ Some right = subst (λ (n : ℕ). slice_get rs n ≡ Some right) (sym e) (indexed rs place right small two) in
    apart_found rs (place - 1) end start left right fault all at next e1 e2 file kind

-- a place after one more element
shifted : (x : CasesRead) (xs : List CasesRead) (k : ℕ) (r : CasesRead) → slice_get xs (k + 1) ≡ Some r → slice_get (x ∷ xs) (suc k + 1) ≡ Some r
shifted x xs k r there_it = let e : suc k + 1 ≡ suc (k + 1) = omega arith in rw e there_it

unshifted : (x : CasesRead) (xs : List CasesRead) (k : ℕ) (r : CasesRead) → slice_get (x ∷ xs) (suc k + 1) ≡ Some r → slice_get xs (k + 1) ≡ Some r
unshifted x xs k r next = let e : suc k + 1 ≡ suc (k + 1) = omega arith in rw e at next

-- texts none of which is apart follow one another
pub in_row : (rs : List CasesRead) → ((n : ℕ) → AreAdjoining rs n) → FollowInRow rs
in_row [] all = tt
in_row (r ∷ []) all = tt
in_row (r ∷ x ∷ rs) all =
    (all 1 0 r x (omega arith) refl refl, in_row (x ∷ rs) (λ n k left right small one two. all (n + 1) (suc k) left right (omega (arith, small)) one (shifted r (x ∷ rs) k right two)))

-- those before a place at which a row breaks
pub record BeforeBreak (rs : List CasesRead) (left right : CasesRead) : Type 0 where
  pub front : List CasesRead
  pub back : List CasesRead
  pub parted : rs ≡ front ++ left ∷ right ∷ back
  pub follow : FollowInRow (front ++ left ∷ [])

follow_on : (x : CasesRead) (front : List CasesRead) (left : CasesRead) → FollowInRow (front ++ left ∷ []) → ((y : CasesRead) → slice_get (front ++ left ∷ []) 0 ≡ Some y → Adjoins x y) → FollowInRow (x ∷ (front ++ left ∷ []))
follow_on x [] left follow first = (first left refl, tt)
follow_on x (f ∷ front) left follow first = (first f refl, follow)

first_same : (front : List CasesRead) (left : CasesRead) (more : List CasesRead) (y : CasesRead) → slice_get (front ++ left ∷ []) 0 ≡ Some y → slice_get (front ++ left ∷ more) 0 ≡ Some y
first_same [] left more y e = e
first_same (f ∷ front) left more y e = e

pub before_break : (rs : List CasesRead) (k : ℕ) (left right : CasesRead) → slice_get rs k ≡ Some left → slice_get rs (k + 1) ≡ Some right → AreAdjoining rs k → BeforeBreak rs left right
before_break [] k left right at next all = absurd (let bad : None ≡ Some left = at in cc)
before_break (x ∷ []) zero left right at next all = absurd (let bad : None ≡ Some right = next in cc)
before_break (x ∷ y ∷ ys) zero left right at next all =
    let one : Some x ≡ Some left = at in
    let two : Some y ≡ Some right = next in
    let same : x ≡ left = cc in
    let other : y ≡ right = cc in
    record { front = []; back = ys; parted = rw (same, other) refl; follow = tt }
before_break (x ∷ xs) (suc k) left right at next all =
    let rest = before_break xs k left right at (unshifted x xs k right next) (λ m a b small one two. all (suc m) a b (omega (arith, small)) one (shifted x xs m b two)) in
    record {
      front = x ∷ rest.front;
      back = rest.back;
      parted = ap (λ (rs : List CasesRead). x ∷ rs) rest.parted;
      follow = follow_on x rest.front left rest.follow
          (λ y e. all 0 x y (omega arith) refl (subst (λ (zs : List CasesRead). slice_get zs 0 ≡ Some y) (sym rest.parted) (first_same rest.front left (right ∷ rest.back) y e)));
    }

-- one more of the first texts
pub take_next : (rs : List CasesRead) (i : ℕ) (d : CasesRead) → i < length rs → take (i + 1) rs ≡ take i rs ++ get_or rs i d ∷ []
take_next [] i d small = absurd (omega (arith, small))
take_next (r ∷ rs) zero d small = refl
take_next (r ∷ rs) (suc i) d small = let e : suc i + 1 ≡ suc (i + 1) = omega arith in rw e (ap (λ (xs : List CasesRead). r ∷ xs) (take_next rs i d (omega (arith, small))))

pub take_whole : (rs : List CasesRead) (n : ℕ) → length rs ≤ n → take n rs ≡ rs
take_whole [] zero past = refl
take_whole [] (suc n) past = refl
take_whole (r ∷ rs) zero past = absurd (omega (arith, past))
take_whole (r ∷ rs) (suc n) past = ap (λ (xs : List CasesRead). r ∷ xs) (take_whole rs n (omega (arith, past)))

-- a sum with one more
pub sum_more : (f : CasesRead → ℕ) (rs : List CasesRead) (i : ℕ) (x : CasesRead) → i < length rs → x ≡ get_or rs i x → sum_by f (take (i + 1) rs) ≡ sum_by f (take i rs) + f x
sum_more f rs i x small is =
    let both = sum_by-append f (take i rs) (x ∷ []) in
    let one = sum_by-cons f x [] in
    let list : take (i + 1) rs ≡ take i rs ++ x ∷ [] = take_next rs i x small ∙ ap (λ (y : CasesRead). take i rs ++ y ∷ []) (sym is) in
    let at = ap (λ (xs : List CasesRead). sum_by f xs) list in
    omega (arith, both, one, at)

pub many_found : (rs : List CasesRead) (i cases now : ℕ) (x : CasesRead) (file : ℕ) → cases ≡ all_cases (take i rs) → cases ≤ most_cases → i < length rs → x ≡ get_or rs i x → now ≡ cases + x.totals.cases → most_cases < now
    → file ≡ x.file → IsManyAt rs file
many_found rs i cases now x file so few small is more past named =
    let sum = sum_more (λ (r : CasesRead). r.totals.cases) rs i x small is in
    record {
      place = i;
      read = x;
      there = there rs i x small ∙ ap (λ (y : CasesRead). Some y) (sym is);
      named = named;
      before = omega (arith, so, few);
      past = omega (arith, so, sum, more, past);
    }

pub cases_more : (rs : List CasesRead) (i cases now : ℕ) (x : CasesRead) → cases ≡ all_cases (take i rs) → i < length rs → x ≡ get_or rs i x → now ≡ cases + x.totals.cases → now ≡ all_cases (take (i + 1) rs)
cases_more rs i cases now x so small is more = let sum = sum_more (λ (r : CasesRead). r.totals.cases) rs i x small is in omega (arith, so, sum, more)

pub none_many : (rs : List CasesRead) (i cases : ℕ) → cases ≡ all_cases (take i rs) → cases ≤ most_cases → length rs ≤ i → all_cases rs ≤ most_cases
none_many rs i cases so few past = let whole = ap all_cases (take_whole rs i past) in omega (arith, so, few, whole)
