-- From the steps of a join to its contract.
use Rattle.std.proofs.Common.{ℕ, zero, suc, ◌≡◌, ◌↔◌, IsTrue, Bool, ◌+◌, ◌-◌, ◌≢◌, ◌<◌, ◌≤◌, ◌^◌, ◌⊎◌, inl, inr, List, [], ◌∷◌, ◌++◌, length, map, take, drop, get_or, slice_get, ◌==◌, true, false, append_assoc, All, Option, MatchOption, Some, None, Result, Ok, Err, IfOk, IfErr, refl, sym, ◌∙◌, ap, subst, arith}
use Rattle.std.proofs.lemmas.Bool.{cases_lt}
use Rattle.std.specs.List.Sorted.{IsPermutation, IsNonDecreasingBy, IsSortedByKey, IsStableByKey}
use Rattle.std.specs.Ordering.{nat_cmp, is_lt}
use Rattle.std.proofs.lemmas.Bool.Decides.{nat_tests}
use Rattle.std.proofs.lemmas.List.{append-nil, drop_all}
use Rattle.std.proofs.lemmas.Grind.{flat_map-append}
use Rattle.std.proofs.lemmas.List.Sums.{sum_by-cons, sum_by-append}
use Rattle.std.proofs.lemmas.List.Sorted.{All-permutation, length_permutation, ties_still_rise}
use Rattle.base.specs.declared.causes.JoinCause.TheVariants as cause
use Rattle.base.specs.declared.causes.JoinCause.{JoinCause}
use Rattle.join.specs.declared.fault.JoinFault.{JoinFault}
use Rattle.report.specs.declared.span.Span.{Span}
use Rattle.join.specs.declared.tally.Tally.{Tally}
use Rattle.join.specs.declared.joining.JoinedText.{JoinedText}
use Rattle.join.specs.Reading.{PartRead, IsPartText, NoPartText, none_read, last_text}
use Rattle.join.specs.Joining.{ArePartTexts, LacksImages, IsOfRun, AreOfRun, AreInRow, size_of, IsFirstLong, IsFirstOther, IsFirstStrange, IsFirstApart, IsJoin, RefusesJoin, no_part, of_other_run, with_gap, with_overlap, short_of_run, no_memory, span_between, opening_text, shown_bytes, first_some, added, totalled}
use Rattle.join.specs.Rows.{AreAlikeTo, NoneIsStrange, IsStrangeAt, AreJoinedTo, NoneIsApart, IsApartAt, IsWritten, IsRow, IsRowWhole, IsRowShort, WhyNoRow, for_break, for_ends, IsRowText, IsSortedText, IsSortedApart, WhyNotJoined, for_memory, for_run, for_images}
use Rattle.join.proofs.Rows.{texts_push, texts_long, IsTold, Any, all_told, made_lines, lines_of, row_lines, row_text}

-- one more element of a mapped list
pub take_map : {S : Type 0} (f : S → List ℕ) (xs : List S) (n : ℕ) (d : S) → n < length xs → take (n + 1) (map f xs) ≡ take n (map f xs) ++ f (get_or xs n d) ∷ []
take_map f [] n d small = absurd (omega (arith, small))
take_map f (x ∷ xs) zero d small = refl
take_map f (x ∷ xs) (suc n) d small = let e : suc n + 1 ≡ suc (n + 1) = omega arith in rw e (ap (λ (ts : List (List ℕ)). f x ∷ ts) (take_map f xs n d (omega (arith, small))))

pub get_map : {S : Type 0} (f : S → List ℕ) (xs : List S) (n : ℕ) (d : S) → n < length xs → slice_get (map f xs) n ≡ Some (f (get_or xs n d))
get_map f [] n d small = absurd (omega (arith, small))
get_map f (x ∷ xs) zero d small = refl
get_map f (x ∷ xs) (suc n) d small = get_map f xs n d (omega (arith, small))

take_long : {S : Type 0} (f : S → List ℕ) (xs : List S) (n : ℕ) → n ≤ length xs → length (take n (map f xs)) ≡ n
take_long f xs zero small = refl
take_long f [] (suc n) small = absurd (omega (arith, small))
take_long f (x ∷ xs) (suc n) small = ap suc (take_long f xs n (omega (arith, small)))

take_whole : {S : Type 0} (f : S → List ℕ) (xs : List S) (n : ℕ) → length xs ≤ n → take n (map f xs) ≡ map f xs
take_whole f [] zero past = refl
take_whole f [] (suc n) past = refl
take_whole f (x ∷ xs) zero past = absurd (omega (arith, past))
take_whole f (x ∷ xs) (suc n) past = ap (λ (ts : List (List ℕ)). f x ∷ ts) (take_whole f xs n (omega (arith, past)))

-- the parts of the first files, and of one more
pub parts_more : {S : Type 0} (f : S → List ℕ) (xs : List S) (n : ℕ) (d : S) (rs : List PartRead) (r : PartRead) → n < length xs → ArePartTexts 0 (take n (map f xs)) rs
    → IsPartText (f (get_or xs n d)) r → r.file ≡ n → ArePartTexts 0 (take (n + 1) (map f xs)) (rs ++ r ∷ [])
parts_more f xs n d rs r small all own at =
    let long = take_long f xs n (omega (arith, small)) in
    rw (take_map f xs n d small) (texts_push 0 (take n (map f xs)) rs (f (get_or xs n d)) r all own (omega (arith, at, long)))

pub parts_all : {S : Type 0} (f : S → List ℕ) (xs : List S) (n : ℕ) (rs : List PartRead) → length xs ≤ n → ArePartTexts 0 (take n (map f xs)) rs → ArePartTexts 0 (map f xs) rs
parts_all f xs n rs past all = rw (take_whole f xs n past) at all

pub other_found : {S : Type 0} (f : S → List ℕ) (xs : List S) (n : ℕ) (d : S) (rs : List PartRead) → n < length xs → ArePartTexts 0 (take n (map f xs)) rs → NoPartText (f (get_or xs n d)) → IsFirstOther (map f xs) n
other_found f xs n d rs small all none = record { before = rs; parts = all; text = f (get_or xs n d); there = get_map f xs n d small; other = none }

-- how many bytes the first texts have
size_more : {S : Type 0} (f : S → List ℕ) (xs : List S) (n : ℕ) (d : S) → n < length xs → size_of (take (n + 1) (map f xs)) ≡ size_of (take n (map f xs)) + length (f (get_or xs n d))
size_more f xs n d small =
    let both = sum_by-append (λ (t : List ℕ). length t) (take n (map f xs)) (f (get_or xs n d) ∷ []) in
    let one = sum_by-cons (λ (t : List ℕ). length t) (f (get_or xs n d)) [] in
    rw (take_map f xs n d small) (omega (arith, both, one))

pub left_more : {S : Type 0} (f : S → List ℕ) (xs : List S) (n left long : ℕ) (d : S) → n < length xs → left + size_of (take n (map f xs)) ≡ 2 ^ 30 → long ≡ length (f (get_or xs n d)) → long ≤ left
    → left - long + size_of (take (n + 1) (map f xs)) ≡ 2 ^ 30
left_more f xs n left long d small so is fits = let more = size_more f xs n d small in omega (arith, so, is, fits, more)

pub long_found : {S : Type 0} (f : S → List ℕ) (xs : List S) (n left long : ℕ) (d : S) → n < length xs → left + size_of (take n (map f xs)) ≡ 2 ^ 30 → long ≡ length (f (get_or xs n d)) → left < long → IsFirstLong (map f xs) n
long_found f xs n left long d small so is past =
    let more = size_more f xs n d small in
    record { there = in_map f xs n small; before = omega (arith, so); past = omega (arith, so, is, past, more) }
  where
    in_map : {S : Type 0} (f : S → List ℕ) (xs : List S) (n : ℕ) → n < length xs → n < length (map f xs)
    in_map f [] n small = absurd (omega (arith, small))
    in_map f (x ∷ xs) zero small = omega arith
    in_map f (x ∷ xs) (suc n) small = let rest = in_map f xs n (omega (arith, small)) in omega (arith, rest)

pub none_long : {S : Type 0} (f : S → List ℕ) (xs : List S) (n left : ℕ) → length xs ≤ n → left + size_of (take n (map f xs)) ≡ 2 ^ 30 → size_of (map f xs) ≤ 2 ^ 30
none_long f xs n left past so = let whole = ap size_of (take_whole f xs n past) in omega (arith, so, whole)

-- each of some texts is no longer than all
pub each_short : {S : Type 0} (f : S → List ℕ) (xs : List S) (most : ℕ) → size_of (map f xs) ≤ most → All (λ x. length (f x) ≤ most) xs
each_short f [] most few = λ k d small. absurd (omega (arith, small))
each_short {S = S} f (x ∷ xs) most few =
    let sum : size_of (map f (x ∷ xs)) ≡ length (f x) + size_of (map f xs) = sum_by-cons (λ (t : List ℕ). length t) (f x) (map f xs) in
    each (omega (arith, few, sum)) (each_short f xs most (omega (arith, few, sum)))
  where
    each : length (f x) ≤ most → All (λ y. length (f y) ≤ most) xs → (k : ℕ) (d : S) → k < length (x ∷ xs) → length (f (get_or (x ∷ xs) k d)) ≤ most
    each own rest zero d small = own
    each own rest (suc k) d small = rest k d (omega (arith, small))

pub all_short : (ts : List (List ℕ)) (most : ℕ) → size_of ts ≤ most → All (λ t. length t ≤ most) ts
all_short [] most few = λ k d small. absurd (omega (arith, small))
all_short (t ∷ ts) most few =
    let sum : size_of (t ∷ ts) ≡ length t + size_of ts = sum_by-cons (λ (u : List ℕ). length u) t ts in
    each (omega (arith, few, sum)) (all_short ts most (omega (arith, few, sum)))
  where
    each : length t ≤ most → All (λ u. length u ≤ most) ts → (k : ℕ) (d : List ℕ) → k < length (t ∷ ts) → length (get_or (t ∷ ts) k d) ≤ most
    each own rest zero d small = own
    each own rest (suc k) d small = rest k d (omega (arith, small))

-- an element that is there
pub there : (rs : List PartRead) (k : ℕ) (d : PartRead) → k < length rs → slice_get rs k ≡ Some (get_or rs k d)
there [] k d small = absurd (omega (arith, small))
there (r ∷ rs) zero d small = refl
there (r ∷ rs) (suc k) d small = there rs k d (omega (arith, small))

one_there : (rs : List PartRead) (k : ℕ) (a b : PartRead) → slice_get rs k ≡ Some a → slice_get rs k ≡ Some b → a ≡ b
one_there rs k a b e f = let same : Some a ≡ Some b = sym e ∙ f in cc

inside_of : (rs : List PartRead) (k : ℕ) (r : PartRead) → slice_get rs k ≡ Some r → k < length rs
inside_of [] k r e = absurd (let bad : None ≡ Some r = e in cc)
inside_of (x ∷ rs) zero r e = omega arith
inside_of (x ∷ rs) (suc k) r e = let rest = inside_of rs k r e in omega (arith, rest)

-- the parts up to one more are of one run
pub none_alike : (rs : List PartRead) → AreAlikeTo rs 0
none_alike rs = λ k run r small. absurd (omega (arith, small))

pub alike_more : (rs : List PartRead) (n : ℕ) (run r : PartRead) → AreAlikeTo rs n → slice_get rs 0 ≡ Some run → slice_get rs n ≡ Some r → IsOfRun run r → AreAlikeTo rs (n + 1)
alike_more rs n run r all first at own = λ k a b small one two. by_place k a b one two (cases_lt k n) small
  where
    by_place : (k : ℕ) (a b : PartRead) → slice_get rs 0 ≡ Some a → slice_get rs k ≡ Some b → (k < n) ⊎ (n ≤ k) → k < n + 1 → IsOfRun a b
    by_place k a b one two (inl less) small = all k a b less one two
    by_place k a b one two (inr past) small =
        let same : k ≡ n = omega (arith, past, small) in
        let here : slice_get rs n ≡ Some b = rw same at two in
        let left = one_there rs 0 run a first one in
        let right = one_there rs n r b at here in
        subst (λ (x : PartRead). IsOfRun a x) right (subst (λ (x : PartRead). IsOfRun x r) left own)

pub all_alike : (rs : List PartRead) (n : ℕ) → length rs ≤ n → AreAlikeTo rs n → NoneIsStrange rs
all_alike rs n past all = record { alike = λ m k run r small one two. let within = inside_of rs k r two in all k run r (omega (arith, past, within)) one two }

pub alike_of : (rs : List PartRead) (run : PartRead) → slice_get rs 0 ≡ Some run → NoneIsStrange rs → AreOfRun run rs
alike_of rs run first none = λ k d small. none.alike (k + 1) k run (get_or rs k d) (omega arith) first (there rs k d small)

pub alike_before : (rs : List PartRead) (run : PartRead) (n : ℕ) → slice_get rs 0 ≡ Some run → AreAlikeTo rs n → AreOfRun run (take n rs)
alike_before rs run n first all = λ k d small. by_take rs n k d small
  where
    of_take : (xs : List PartRead) (m k : ℕ) (d : PartRead) → k < length (take m xs) → (k < m) × (slice_get xs k ≡ Some (get_or (take m xs) k d))
    of_take xs zero k d small = absurd (omega (arith, small))
    of_take [] (suc m) k d small = absurd (omega (arith, small))
    of_take (x ∷ xs) (suc m) zero d small = (omega arith, refl)
    of_take (x ∷ xs) (suc m) (suc k) d small = let rest = of_take xs m k d (omega (arith, small)) in let less = rest.0 in (omega (arith, less), rest.1)

    by_take : (xs : List PartRead) (m k : ℕ) (d : PartRead) → k < length (take n rs) → IsOfRun run (get_or (take n rs) k d)
    by_take xs m k d small = let at = of_take rs n k d small in all k run (get_or (take n rs) k d) at.0 first at.1

-- parts that are joined up to one more
pub none_joined : (rs : List PartRead) → AreJoinedTo rs 0
none_joined rs = λ k left right small. absurd (omega (arith, small))

pub joined_more : (rs : List PartRead) (n : ℕ) (left right : PartRead) → AreJoinedTo rs n → slice_get rs n ≡ Some left → slice_get rs (n + 1) ≡ Some right → left.span.to ≡ right.span.from → AreJoinedTo rs (n + 1)
joined_more rs n left right all at next own = λ k a b small one two. by_place k a b one two (cases_lt k n) small
  where
    by_place : (k : ℕ) (a b : PartRead) → slice_get rs k ≡ Some a → slice_get rs (k + 1) ≡ Some b → (k < n) ⊎ (n ≤ k) → k < n + 1 → a.span.to ≡ b.span.from
    by_place k a b one two (inl less) small = all k a b less one two
    by_place k a b one two (inr past) small =
        let same : k ≡ n = omega (arith, past, small) in
        let here : slice_get rs n ≡ Some a = rw same at one in
        let beyond : slice_get rs (n + 1) ≡ Some b = rw same at two in
        let x = one_there rs n left a at here in
        let y = one_there rs (n + 1) right b next beyond in
        rw (← x, ← y) own

pub all_joined : (rs : List PartRead) (n : ℕ) → length rs ≤ n + 1 → AreJoinedTo rs n → NoneIsApart rs
all_joined rs n past all = record { joined = λ m k left right small one two. let within = inside_of rs (k + 1) right two in all k left right (omega (arith, past, within)) one two }

-- a row that isn't whole
pub starts_late : (rs : List PartRead) (first last : PartRead) (fault : JoinFault) → slice_get rs 0 ≡ Some first → slice_get rs (length rs - 1) ≡ Some last → 0 < first.span.from
    → fault ≡ record { cause = cause.Gap; file = first.file } → IsRowShort rs fault
starts_late rs first last fault at end late is = record {
  first = first;
  first_there = at;
  last = last;
  last_there = end;
  kind = ap (λ (f : JoinFault). f.cause) is;
  lacking = inl (late, ap (λ (f : JoinFault). f.file) is);
}

pub ends_early : (rs : List PartRead) (first last : PartRead) (fault : JoinFault) → slice_get rs 0 ≡ Some first → slice_get rs (length rs - 1) ≡ Some last → first.span.from ≤ 0
    → last.span.to ≢ first.span.images → fault ≡ record { cause = cause.Gap; file = length rs } → IsRowShort rs fault
ends_early rs first last fault at end start early is = record {
  first = first;
  first_there = at;
  last = last;
  last_there = end;
  kind = ap (λ (f : JoinFault). f.cause) is;
  lacking = inr (omega (arith, start), early, ap (λ (f : JoinFault). f.file) is);
}

pub row_whole : (rs : List PartRead) (first last : PartRead) → slice_get rs 0 ≡ Some first → slice_get rs (length rs - 1) ≡ Some last → first.span.from ≤ 0 → last.span.to ≡ first.span.images → IsRowWhole rs
row_whole rs first last at end start is = record {
  ends = λ one other here there_it.
      let same = one_there rs 0 first one at here in
      let also = one_there rs (length rs - 1) last other end there_it in
      let begins : one.span.from ≡ 0 = rw (← same) (omega (arith, start)) in
      (begins, rw (← same, ← also) is);
}

-- what a test of a row tells
pub row_breaks : (part : Bool) (rs : List PartRead) (fault : JoinFault) → IsApartAt rs fault → WhyNoRow part rs fault
row_breaks part rs fault apart = for_break apart

pub row_joined : (part : Bool) (rs : List PartRead) → NoneIsApart rs → part ≡ true → IsRow part rs
row_joined part rs joined some = record { joined = joined; whole = λ all. absurd (let lack : true ≡ false = sym some ∙ all in cc) }

pub row_lacks : (part : Bool) (rs : List PartRead) → NoneIsApart rs → part ≡ false → (found : Option JoinFault) → MatchOption found (IsRowWhole rs) (λ fault. IsRowShort rs fault)
    → MatchOption found (IsRow part rs) (λ fault. WhyNoRow part rs fault)
row_lacks part rs joined all None whole = record { joined = joined; whole = λ _all. whole }
row_lacks part rs joined all (Some fault) short = for_ends all joined short

-- a place after one more element
shifted : (x : PartRead) (xs : List PartRead) (k : ℕ) (r : PartRead) → slice_get xs (k + 1) ≡ Some r → slice_get (x ∷ xs) (suc k + 1) ≡ Some r
shifted x xs k r there_it = let e : suc k + 1 ≡ suc (k + 1) = omega arith in rw e there_it

unshifted : (x : PartRead) (xs : List PartRead) (k : ℕ) (r : PartRead) → slice_get (x ∷ xs) (suc k + 1) ≡ Some r → slice_get xs (k + 1) ≡ Some r
unshifted x xs k r next = let e : suc k + 1 ≡ suc (k + 1) = omega arith in rw e at next

-- parts none of which is apart stand in a row
in_row : (r : PartRead) (rs : List PartRead) (last : PartRead) → ((n : ℕ) → AreJoinedTo (r ∷ rs) n) → slice_get (r ∷ rs) (length rs) ≡ Some last → AreInRow r.span.from (r ∷ rs) last.span.to
in_row r [] last all at = let same : r ≡ last = one_there (r ∷ []) 0 r last refl at in (refl, ap (λ (x : PartRead). x.span.to) same)
in_row r (x ∷ rs) last all at =
    let first = all 1 0 r x (omega arith) refl refl in
    let rest = in_row x rs last (λ n k left right small one two. all (n + 1) (suc k) left right (omega (arith, small)) one (shifted r (x ∷ rs) k right two)) at in
    (refl, subst (λ (a : ℕ). AreInRow a (x ∷ rs) last.span.to) (sym first) rest)

-- two parts of the run of a third are of one run
of_first : (run r x : PartRead) → IsOfRun run r → IsOfRun run x → IsOfRun r x
of_first run r x own also = record {
  head = also.head ∙ sym own.head;
  first = also.first ∙ sym own.first;
  images = also.images ∙ sym own.images;
  inputs = also.inputs ∙ sym own.inputs;
}

-- what was written of parts in a row is what the texts come to
pub joined_found : (part : Bool) (texts : List (List ℕ)) (reads row : List PartRead) (bytes : List ℕ) (failing : Bool) → ArePartTexts 0 texts reads → NoneIsStrange reads → 0 < length reads → IsPermutation reads row
    → IsRowText part row bytes failing → IsJoin part texts bytes failing
joined_found part texts reads row bytes failing each alike some order text = by_first reads each alike some order
  where
    by_row : (rs : List PartRead) (run : PartRead) → All (IsTold Any) rs → AreOfRun run rs → ArePartTexts 0 texts reads → IsPermutation reads rs → IsRowText part rs bytes failing → 0 < length rs → IsJoin part texts bytes failing
    by_row [] run told one all moved found more = absurd (omega (arith, more))
    by_row (r ∷ rs) run told one all moved found more =
        let first = one_there (r ∷ rs) 0 r found.of_row.run refl found.of_row.there in
        let also = one_there (r ∷ rs) 0 r found.written.run refl found.written.there in
        let last = found.of_row.last in
        let end : slice_get (r ∷ rs) (length rs) ≡ Some last = let stood = found.of_row.last_there in let e : length (r ∷ rs) - 1 ≡ length rs = omega arith in rw e at stood in
        let of_run : AreOfRun r (r ∷ rs) = λ k d small. of_first run r (get_or (r ∷ rs) k d) (one 0 r (omega arith)) (one k d small) in
        let stand = in_row r rs last found.stands.joined.joined end in
        let made = made_lines Any (r ∷ rs) told in
        let lines = row_lines Any (r ∷ rs) made.0 r.span.from last.span.to made.1 stand in
        let span : found.span ≡ span_between r r.span.from last.span.to = found.of_row.is ∙ ap (λ (x : PartRead). record { from = x.span.from; to = last.span.to; images = x.span.images; inputs = x.span.inputs }) (sym first) in
        let long = lines.lines none_read in
        let counted : (totalled none_read (r ∷ rs)).lines ≡ length made.0 = omega (arith, long) in
        let back = sym also in
        record {
          joined = record {
            reads = reads;
            each = all;
            row = r ∷ rs;
            order = moved;
            some = more;
            run = r;
            one = of_run;
            from = r.span.from;
            to = last.span.to;
            in_row = stand;
            lines = made.0;
            of_parts = lines_of Any (r ∷ rs) made.0 made.1;
            is = found.written.is ∙ rw (back, span) (sym (row_text r r.span.from last.span.to (r ∷ rs) made.0 lines of_run));
            fails = subst (λ (n : ℕ). IsTrue failing ↔ (0 < n)) counted found.fails;
          };
          whole = λ all_wanted. (found.stands.whole all_wanted).ends r last refl found.of_row.last_there;
        }

    by_first : (rs : List PartRead) → ArePartTexts 0 texts rs → NoneIsStrange rs → 0 < length rs → IsPermutation rs row → IsJoin part texts bytes failing
    by_first [] all one more moved = absurd (omega (arith, more))
    by_first (x ∷ xs) all one more moved =
        let told = All-permutation (IsTold Any) (x ∷ xs) row moved (all_told 0 texts (x ∷ xs) all) in
        let of_run = All-permutation (IsOfRun x) (x ∷ xs) row moved (alike_of (x ∷ xs) x refl one) in
        let long = length_permutation (x ∷ xs) row moved in
        by_row row x told of_run each order text (omega (arith, long, more))

-- the parts before a place at which a row breaks
record BeforeBreak (rs : List PartRead) (left right : PartRead) : Type 0 where
  front : List PartRead
  back : List PartRead
  parted : rs ≡ front ++ left ∷ right ∷ back
  first : PartRead
  there_first : slice_get rs 0 ≡ Some first
  stand : AreInRow first.span.from (front ++ left ∷ []) left.span.to

before_break : (rs : List PartRead) (k : ℕ) (left right : PartRead) → slice_get rs k ≡ Some left → slice_get rs (k + 1) ≡ Some right → AreJoinedTo rs k → BeforeBreak rs left right
before_break [] k left right at next all = absurd (let bad : None ≡ Some left = at in cc)
before_break (x ∷ []) zero left right at next all = absurd (let bad : None ≡ Some right = next in cc)
before_break (x ∷ y ∷ ys) zero left right at next all =
    let one : Some x ≡ Some left = at in
    let two : Some y ≡ Some right = next in
    let same : x ≡ left = cc in
    let other : y ≡ right = cc in
    record { front = []; back = ys; parted = rw (same, other) refl; first = left; there_first = at; stand = (refl, refl) }
before_break (x ∷ xs) (suc k) left right at next all =
    let rest = before_break xs k left right at (unshifted x xs k right next) (λ m a b small one two. all (suc m) a b (omega (arith, small)) one (shifted x xs m b two)) in
    let meets : x.span.to ≡ rest.first.span.from = all 0 x rest.first (omega arith) refl rest.there_first in
    record {
      front = x ∷ rest.front;
      back = rest.back;
      parted = ap (λ (rs : List PartRead). x ∷ rs) rest.parted;
      first = x;
      there_first = refl;
      stand = (refl, subst (λ (a : ℕ). AreInRow a (rest.front ++ left ∷ []) left.span.to) (sym meets) rest.stand);
    }

same_fault : (fault : JoinFault) (kind : JoinCause) (file : ℕ) → fault.cause ≡ kind → fault.file ≡ file → record { cause = kind; file = file } ≡ fault
same_fault fault kind file one two = rw (← one, ← two) refl

-- a row that breaks is refused
-- the files of parts that were read rise
file_at : (n : ℕ) (ts : List (List ℕ)) (rs : List PartRead) (k : ℕ) (d : PartRead) → ArePartTexts n ts rs → k < length rs → (get_or rs k d).file ≡ n + k
file_at n [] [] k d all small = absurd (omega (arith, small))
file_at n [] (s ∷ rs) k d all small = absurd all
file_at n (t ∷ ts) [] k d all small = absurd all
file_at n (t ∷ ts) (s ∷ rs) zero d all small = let e : n + 0 ≡ n = omega arith in rw e all.1
file_at n (t ∷ ts) (s ∷ rs) (suc k) d all small = let rest = file_at (n + 1) ts rs k d all.2 (omega (arith, small)) in omega (arith, rest)

not_less : (x y : ℕ) → y < x → is_lt (nat_cmp x y) ≡ false
not_less x y less = grind (arith, nat_tests, less)

files_sorted : (n : ℕ) (ts : List (List ℕ)) (rs : List PartRead) → ArePartTexts n ts rs → IsSortedByKey (λ (r : PartRead). r.file) nat_cmp rs
files_sorted n ts rs all = λ k d low high.
    let one = file_at n ts rs k d all (omega (arith, high)) in
    let two = file_at n ts rs (k + 1) d all high in
    not_less (get_or rs (k + 1) d).file (get_or rs k d).file (omega (arith, one, two))

apart_found : (part : Bool) (texts : List (List ℕ)) (reads row : List PartRead) (fault : JoinFault) → ArePartTexts 0 texts reads → NoneIsStrange reads → 0 < length reads → IsPermutation reads row
    → IsNonDecreasingBy (λ (r : PartRead). r.span.from) row → IsStableByKey (λ (r : PartRead). r.span.from) nat_cmp reads row → IsApartAt row fault → RefusesJoin part texts fault
apart_found part texts reads row fault each alike some order rising stable apart = by_kind apart.kind
  where
    broken : BeforeBreak row apart.left apart.right
    broken = before_break row apart.place apart.left apart.right apart.left_there apart.right_there apart.joined

    of_run : (rs : List PartRead) → 0 < length rs → NoneIsStrange rs → (run : PartRead) × AreOfRun run rs
    of_run [] more one = absurd (omega (arith, more))
    of_run (x ∷ xs) more one = (x, alike_of (x ∷ xs) x refl one)

    first : IsFirstApart texts apart.left apart.right
    first =
        let run = of_run reads some alike in
        record {
          reads = reads;
          each = each;
          run = run.0;
          one = run.1;
          row = row;
          order = order;
          by_images = record { rising = rising; files = ties_still_rise (λ (r : PartRead). r.file) (λ (r : PartRead). r.span.from) reads row (files_sorted 0 texts reads each) stable };
          front = broken.front;
          back = broken.back;
          parted = broken.parted;
          from = broken.first.span.from;
          before = broken.stand;
        }

    by_kind : ((fault.cause ≡ cause.Gap) × (apart.left.span.to < apart.right.span.from)) ⊎ ((fault.cause ≡ cause.Overlap) × (apart.right.span.from < apart.left.span.to)) → RefusesJoin part texts fault
    by_kind (inl gap) = subst (λ (f : JoinFault). RefusesJoin part texts f) (same_fault fault cause.Gap apart.right.file gap.0 apart.file) (with_gap apart.left apart.right first gap.1)
    by_kind (inr over) = subst (λ (f : JoinFault). RefusesJoin part texts f) (same_fault fault cause.Overlap apart.right.file over.0 apart.file) (with_overlap apart.left apart.right first over.1)

-- a row that isn't whole, where that is asked for
short_found : (part : Bool) (texts : List (List ℕ)) (reads row : List PartRead) (fault : JoinFault) → ArePartTexts 0 texts reads → NoneIsStrange reads → IsPermutation reads row → part ≡ false → NoneIsApart row
    → IsRowShort row fault → RefusesJoin part texts fault
short_found part texts reads row fault each alike order all joined short = by_row row order joined short.first_there short.last_there (length_permutation reads row order) short.lacking
  where
    of_run : (rs : List PartRead) → NoneIsStrange rs → 0 < length rs → (run : PartRead) × AreOfRun run rs
    of_run [] one more = absurd (omega (arith, more))
    of_run (x ∷ xs) one more = (x, alike_of (x ∷ xs) x refl one)

    by_row : (rs : List PartRead) → IsPermutation reads rs → NoneIsApart rs → slice_get rs 0 ≡ Some short.first → slice_get rs (length rs - 1) ≡ Some short.last → length rs ≡ length reads
        → LacksImages short.first short.last.span.to (length row) fault.file → RefusesJoin part texts fault
    by_row [] moved stands at end long lacking = absurd (let bad : None ≡ Some short.first = at in cc)
    by_row (r ∷ rs) moved stands at end long lacking =
        let first = one_there (r ∷ rs) 0 r short.first refl at in
        let last : slice_get (r ∷ rs) (length rs) ≡ Some short.last = let e : length (r ∷ rs) - 1 ≡ length rs = omega arith in rw e at end in
        let in_it = in_row r rs short.last stands.joined last in
        let run = of_run reads alike (omega (arith, long)) in
        let own = All-permutation (IsOfRun run.0) reads (r ∷ rs) moved run.1 in
        let count : length row ≡ length texts = length_permutation reads row order ∙ texts_long 0 texts reads each in
        let is_file : LacksImages r short.last.span.to (length texts) fault.file =
        subst (λ (x : PartRead). LacksImages x short.last.span.to (length texts) fault.file) (sym first) (subst (λ (n : ℕ). LacksImages short.first short.last.span.to n fault.file) count lacking) in
        subst (λ (f : JoinFault). RefusesJoin part texts f) (same_fault fault cause.Gap fault.file short.kind refl)
        (short_of_run fault.file all (record {
          reads = reads;
          each = each;
          first = r;
          others = rs;
          order = moved;
          one = λ k d small. of_first run.0 r (get_or (r ∷ rs) k d) (own 0 r (omega arith)) (own k d small);
          to = short.last.span.to;
          in_row = in_it;
          lacking = is_file;
        }))

no_row_found : (part : Bool) (texts : List (List ℕ)) (reads row : List PartRead) (fault : JoinFault) → ArePartTexts 0 texts reads → NoneIsStrange reads → 0 < length reads → IsPermutation reads row
    → IsNonDecreasingBy (λ (r : PartRead). r.span.from) row → IsStableByKey (λ (r : PartRead). r.span.from) nat_cmp reads row → WhyNoRow part row fault → RefusesJoin part texts fault
no_row_found part texts reads row fault each alike some order rising stable (for_break apart) = apart_found part texts reads row fault each alike some order rising stable apart
no_row_found part texts reads row fault each alike some order rising stable (for_ends all joined short) = short_found part texts reads row fault each alike order all joined short

pub strange_found : (texts : List (List ℕ)) (reads : List PartRead) (place : ℕ) → ArePartTexts 0 texts reads → IsStrangeAt reads place → IsFirstStrange texts place
strange_found texts reads place each at = record {
  reads = reads;
  each = each;
  run = at.run;
  run_there = at.run_there;
  before = alike_before reads at.run place at.run_there at.alike;
  read = at.read;
  there = at.there;
  strange = at.strange;
}

-- the steps of loops, by the element that is at hand
pub parts_next : {S : Type 0} (f : S → List ℕ) (xs : List S) (n : ℕ) (x : S) (bytes : List ℕ) (rs : List PartRead) (r : PartRead) → ArePartTexts 0 (take n (map f xs)) rs → n < length xs → x ≡ get_or xs n x
    → bytes ≡ f x → IsPartText bytes r → r.file ≡ n → ArePartTexts 0 (take (n + 1) (map f xs)) (rs ++ r ∷ [])
parts_next f xs n x bytes rs r all small is same own at =
    parts_more f xs n x rs r small all (subst (λ (bs : List ℕ). IsPartText bs r) (same ∙ ap f is) own) at

pub part_refused : {S : Type 0} (f : S → List ℕ) (xs : List S) (n : ℕ) (x : S) (bytes : List ℕ) (rs : List PartRead) (fault : JoinFault) → ArePartTexts 0 (take n (map f xs)) rs → n < length xs → x ≡ get_or xs n x
    → bytes ≡ f x → (fault ≡ record { cause = cause.Memory; file = 0 }) ⊎ ((fault ≡ record { cause = cause.NotPart; file = n }) × NoPartText bytes)
    → (fault ≡ record { cause = cause.Memory; file = 0 }) ⊎ ((fault.cause ≡ cause.NotPart) × IsFirstOther (map f xs) fault.file)
part_refused f xs n x bytes rs fault all small is same (inl memory) = inl memory
part_refused f xs n x bytes rs fault all small is same (inr (at, none)) =
    let other = other_found f xs n x rs small all (subst (λ (bs : List ℕ). NoPartText bs) (same ∙ ap f is) none) in
    inr (ap (λ (g : JoinFault). g.cause) at, subst (λ (k : ℕ). IsFirstOther (map f xs) k) (sym (ap (λ (g : JoinFault). g.file) at)) other)

take_next : (rs : List PartRead) (i : ℕ) (d : PartRead) → i < length rs → take (i + 1) rs ≡ take i rs ++ get_or rs i d ∷ []
take_next [] i d small = absurd (omega (arith, small))
take_next (r ∷ rs) zero d small = refl
take_next (r ∷ rs) (suc i) d small = let e : suc i + 1 ≡ suc (i + 1) = omega arith in rw e (ap (λ (xs : List PartRead). r ∷ xs) (take_next rs i d (omega (arith, small))))

totalled_push : (t : Tally) (rs : List PartRead) (r : PartRead) → totalled t (rs ++ r ∷ []) ≡ added (totalled t rs) r.tally
unfolding totalled
totalled_push t [] r = refl
totalled_push t (x ∷ rs) r = totalled_push (added t x.tally) rs r

pub totalled_none : (t : Tally) → totalled t [] ≡ t
unfolding totalled
totalled_none t = refl

pub take_whole_list : (rs : List PartRead) (n : ℕ) → length rs ≤ n → take n rs ≡ rs
take_whole_list [] zero past = refl
take_whole_list [] (suc n) past = refl
take_whole_list (r ∷ rs) zero past = absurd (omega (arith, past))
take_whole_list (r ∷ rs) (suc n) past = ap (λ (xs : List PartRead). r ∷ xs) (take_whole_list rs n (omega (arith, past)))

pub item_few : (f : PartRead → ℕ) (most : ℕ) (rs : List PartRead) (i : ℕ) (x : PartRead) → All (λ r. f r ≤ most) rs → i < length rs → x ≡ get_or rs i x → f x ≤ most
item_few f most rs i x all small is = let own = all i x small in subst (λ (r : PartRead). f r ≤ most) (sym is) own

pub totalled_next : (rs : List PartRead) (i : ℕ) (x : PartRead) (t u : Tally) → t ≡ totalled none_read (take i rs) → i < length rs → x ≡ get_or rs i x → u ≡ added t x.tally → u ≡ totalled none_read (take (i + 1) rs)
totalled_next rs i x t u so small is own =
    let more = take_next rs i x small in
    let at : get_or rs i x ≡ x = sym is in
    own ∙ (rw (more, at, so) (sym (totalled_push none_read (take i rs) x)))

pub shown_next : (rs : List PartRead) (i : ℕ) (x : PartRead) (before out : List ℕ) → out ≡ before ++ shown_bytes false (take i rs) → i < length rs → x ≡ get_or rs i x → out ++ x.lines ≡ before ++ shown_bytes false (take (i + 1) rs)
shown_next rs i x before out so small is =
    let more = take_next rs i x small in
    let at : get_or rs i x ≡ x = sym is in
    let both : shown_bytes false (take i rs ++ x ∷ []) ≡ shown_bytes false (take i rs) ++ x.lines = flat_map-append (λ (r : PartRead). r.lines) (take i rs) (x ∷ []) ∙ ap (λ (bs : List ℕ). shown_bytes false (take i rs) ++ bs) (append-nil x.lines) in
    rw (more, at, so, both) (append_assoc before (shown_bytes false (take i rs)) x.lines)

drop_next : (rs : List PartRead) (i : ℕ) (d : PartRead) → i < length rs → drop i rs ≡ get_or rs i d ∷ drop (i + 1) rs
drop_next [] i d small = absurd (omega (arith, small))
drop_next (r ∷ rs) zero d small = refl
drop_next (r ∷ rs) (suc i) d small = let e : suc i + 1 ≡ suc (i + 1) = omega arith in rw e (drop_next rs i d (omega (arith, small)))

-- a part without lines shows nothing
pub some_next : (rs : List PartRead) (i : ℕ) (x : PartRead) → first_some rs ≡ first_some (drop i rs) → i < length rs → x ≡ get_or rs i x → (length x.lines == 0) ≡ true → first_some rs ≡ first_some (drop (i + 1) rs)
some_next rs i x so small is none =
    let next = drop_next rs i x small in
    let at : get_or rs i x ≡ x = sym is in
    so ∙ (rw (next, at, none) refl)

pub some_found : (rs : List PartRead) (i : ℕ) (x : PartRead) → first_some rs ≡ first_some (drop i rs) → i < length rs → x ≡ get_or rs i x → (length x.lines == 0) ≡ false → x.lines ≡ first_some rs
some_found rs i x so small is some =
    let next = drop_next rs i x small in
    let at : get_or rs i x ≡ x = sym is in
    sym (so ∙ (rw (next, at, some) refl))

pub none_found : (rs : List PartRead) (i : ℕ) → first_some rs ≡ first_some (drop i rs) → length rs ≤ i → first_some rs ≡ []
none_found rs i so past = so ∙ ap first_some (drop_all i rs past)

-- each part that was read has no more lines than bytes
pub written_found : (span : Span) (rs : List PartRead) (x : PartRead) (opening shown last out : List ℕ) → slice_get rs 0 ≡ Some x → opening ≡ opening_text span → shown ≡ shown_bytes x.first rs
    → last ≡ last_text x.first (span.to - span.from) (totalled none_read rs) → out ≡ ((opening ++ x.head) ++ shown) ++ last → IsWritten span rs out
written_found span rs x opening shown last out at a b c e = record {
  run = x;
  there = at;
  is = e ∙ (rw (a, b, c) (simp append_assoc));
}

-- the refusals of a join, in their order
pub parts_wanting : (part : Bool) (texts : List (List ℕ)) (fault : JoinFault) → (fault ≡ record { cause = cause.Memory; file = 0 }) ⊎ ((fault.cause ≡ cause.NotPart) × IsFirstOther texts fault.file) → RefusesJoin part texts fault
parts_wanting part texts fault (inl memory) = subst (λ (f : JoinFault). RefusesJoin part texts f) (sym memory) no_memory
parts_wanting part texts fault (inr (kind, other)) = subst (λ (f : JoinFault). RefusesJoin part texts f) (same_fault fault cause.NotPart fault.file kind refl) (no_part fault.file other)

strange_refused : (part : Bool) (texts : List (List ℕ)) (reads : List PartRead) (place : ℕ) → ArePartTexts 0 texts reads → IsStrangeAt reads place → RefusesJoin part texts (record { cause = cause.OtherRun; file = place })
strange_refused part texts reads place each at = of_other_run place (strange_found texts reads place each at)

-- parts in the order of their images
module _ (reads row slice : List PartRead) (order : IsPermutation reads row) (is : slice ≡ row) where
  pub slice_some : 0 < length reads → 0 < length slice
  slice_some some = let long = length_permutation reads row order in let same = ap (λ (rs : List PartRead). length rs) is in omega (arith, some, long, same)

  pub slice_few : length reads ≤ 4096 → length slice ≤ 4096
  slice_few few = let long = length_permutation reads row order in let same = ap (λ (rs : List PartRead). length rs) is in omega (arith, few, long, same)

  pub slice_all : (f : PartRead → ℕ) (most : ℕ) → All (λ r. f r ≤ most) reads → All (λ r. f r ≤ most) slice
  slice_all f most all = subst (λ (rs : List PartRead). All (λ (r : PartRead). f r ≤ most) rs) (sym is) (All-permutation (λ (r : PartRead). f r ≤ most) reads row order all)

  pub sorted_text : (part : Bool) (r : Result JoinedText JoinFault) → IfOk r (λ j. IsRowText part slice j.bytes.items j.failing) → IfOk r (λ j. IsSortedText part reads j.bytes.items j.failing)
  sorted_text part (Ok j) text = record { row = row; order = order; text = subst (λ (rs : List PartRead). IsRowText part rs j.bytes.items j.failing) is text }
  sorted_text part (Err fault) text = tt

  pub sorted_apart : (part : Bool) (r : Result JoinedText JoinFault) → IsNonDecreasingBy (λ (x : PartRead). x.span.from) row
      → IsStableByKey (λ (x : PartRead). x.span.from) nat_cmp reads row → IfErr r (λ f. (f ≡ record { cause = cause.Memory; file = 0 }) ⊎ WhyNoRow part slice f) → IfErr r (λ f. (f ≡ record { cause = cause.Memory; file = 0 }) ⊎ IsSortedApart part reads f)
  sorted_apart part (Ok bytes) rising stable apart = tt
  sorted_apart part (Err fault) rising stable (inl memory) = inl memory
  sorted_apart part (Err fault) rising stable (inr apart) = inr (record { row = row; order = order; rising = rising; stable = stable; apart = subst (λ (rs : List PartRead). WhyNoRow part rs fault) is apart })

-- parts of one run
pub run_text : (part : Bool) (reads slice : List PartRead) → slice ≡ reads → NoneIsStrange slice → (r : Result JoinedText JoinFault) → IfOk r (λ j. IsSortedText part reads j.bytes.items j.failing)
    → IfOk r (λ j. NoneIsStrange reads × IsSortedText part reads j.bytes.items j.failing)
run_text part reads slice is alike (Ok bytes) text = (subst (λ (rs : List PartRead). NoneIsStrange rs) is alike, text)
run_text part reads slice is alike (Err fault) text = tt

pub run_refused : (part : Bool) (reads slice : List PartRead) → slice ≡ reads → NoneIsStrange slice → (r : Result JoinedText JoinFault)
    → IfErr r (λ f. (f ≡ record { cause = cause.Memory; file = 0 }) ⊎ IsSortedApart part reads f) → IfErr r (WhyNotJoined part reads)
run_refused part reads slice is alike (Ok bytes) why = tt
run_refused part reads slice is alike (Err fault) (inl memory) = subst (λ (f : JoinFault). WhyNotJoined part reads f) (sym memory) for_memory
run_refused part reads slice is alike (Err fault) (inr apart) = for_images fault (subst (λ (rs : List PartRead). NoneIsStrange rs) is alike) apart

pub other_refused : (part : Bool) (reads slice : List PartRead) (place : ℕ) → slice ≡ reads → IsStrangeAt slice place → WhyNotJoined part reads (record { cause = cause.OtherRun; file = place })
other_refused part reads slice place is at = for_run place (subst (λ (rs : List PartRead). IsStrangeAt rs place) is at)

-- what is read of files
long_map : {S : Type 0} (f : S → List ℕ) (xs : List S) → length (map f xs) ≡ length xs
long_map f [] = refl
long_map f (x ∷ xs) = ap suc (long_map f xs)

pub reads_long : {S : Type 0} (f : S → List ℕ) (xs : List S) (reads : List PartRead) → ArePartTexts 0 (map f xs) reads → length reads ≡ length xs
reads_long f xs reads all = texts_long 0 (map f xs) reads all ∙ long_map f xs

pub files_joined : (part : Bool) (texts : List (List ℕ)) (reads : List PartRead) → 0 < length reads → ArePartTexts 0 texts reads → (r : Result JoinedText JoinFault)
    → IfOk r (λ j. NoneIsStrange reads × IsSortedText part reads j.bytes.items j.failing) → IfOk r (λ j. IsJoin part texts j.bytes.items j.failing)
files_joined part texts reads some each (Ok j) (alike, text) = joined_found part texts reads text.row j.bytes.items j.failing each alike some text.order text.text
files_joined part texts reads some each (Err fault) text = tt

why_refused : (part : Bool) (texts : List (List ℕ)) (reads : List PartRead) → 0 < length reads → ArePartTexts 0 texts reads → (fault : JoinFault) → WhyNotJoined part reads fault → RefusesJoin part texts fault
why_refused part texts reads some each _ for_memory = no_memory
why_refused part texts reads some each _ (for_run place at) = strange_refused part texts reads place each at
why_refused part texts reads some each _ (for_images fault alike apart) = no_row_found part texts reads apart.row fault each alike some apart.order apart.rising apart.stable apart.apart

pub files_refused : (part : Bool) (texts : List (List ℕ)) (reads : List PartRead) → 0 < length reads → ArePartTexts 0 texts reads → (r : Result JoinedText JoinFault) → IfErr r (WhyNotJoined part reads)
    → IfErr r (RefusesJoin part texts)
files_refused part texts reads some each (Ok bytes) why = tt
files_refused part texts reads some each (Err fault) why = why_refused part texts reads some each fault why

-- what is known before an answer
pub known_ok : {A E : Type 0} (r : Result A E) (P : Type 0) → P → IfOk r (λ _x. P)
known_ok (Ok x) P p = p
known_ok (Err e) P p = tt

pub known_err : {A : Type 0} (r : Result A JoinFault) (P : Type 0) → P → IfErr r (λ f. (f.cause ≡ cause.TooLong) ⊎ P)
known_err (Ok x) P p = tt
known_err (Err f) P p = inr p
