-- What stands in the first bytes stands in all of them.
use Rattle.std.proofs.Common.{ℕ, zero, suc, ◌≡◌, ◌+◌, ◌*◌, ◌-◌, ◌≤◌, min, List, ◌++◌, length, take, drop, slice_index, refl, sym, subst, ◌∙◌, ap, arith, length-append}
use Rattle.std.specs.List.{slice_range}
use Rattle.std.proofs.lemmas.Int.{clamps}
use Rattle.std.proofs.lemmas.List.{length-take, length-drop, take-append-drop, take-append-le, drop-append-le, get_or_append_left}
use Rattle.byteorder.specs.Endian.{little_from}
use Rattle.base.specs.Numbers.{number_at}
use Rattle.logfmt.specs.declared.entry.Entry.{Entry}
use Rattle.logfmt.specs.Bounds.{data_of, place}
use Rattle.raw_log.specs.Raw.{IsTimes, StandsRaw, RawText, bytes_in}
use Rattle.raw_log.proofs.NoFault.{positive}
use Rattle.input_files.specs.RawLogs.{read_raw, needed_length, RawIsImportedAlike}

little_kept : (n j : ℕ) (xs ys : List ℕ) → j + n ≤ length xs → little_from j n (xs ++ ys) ≡ little_from j n xs
little_kept zero j xs ys h = refl
little_kept (suc n) j xs ys h =
    let first : slice_index (xs ++ ys) j ≡ slice_index xs j = get_or_append_left xs ys 0 j (omega (arith, h)) in
    let rest : little_from (suc j) n (xs ++ ys) ≡ little_from (suc j) n xs = little_kept n (suc j) xs ys (omega (arith, h)) in
    rw (first, rest) refl

-- a number
pub number_kept : (n i : ℕ) (xs ys : List ℕ) → i + n ≤ length xs → number_at n i (xs ++ ys) ≡ number_at n i xs
unfolding number_at
number_kept n i xs ys h =
    let beyond : drop i (xs ++ ys) ≡ drop i xs ++ ys = drop-append-le i xs ys (omega (arith, h)) in
    let long : length (drop i xs) ≡ length xs - i = length-drop i xs in
    rw beyond (little_kept n 0 (drop i xs) ys (omega (arith, long, h)))

-- some bytes
range_kept : (a b : ℕ) (xs ys : List ℕ) → a ≤ b → b ≤ length xs → slice_range (xs ++ ys) a b ≡ slice_range xs a b
range_kept a b xs ys ordered within =
    let beyond : drop a (xs ++ ys) ≡ drop a xs ++ ys = drop-append-le a xs ys (omega (arith, ordered, within)) in
    let long : length (drop a xs) ≡ length xs - a = length-drop a xs in
    ap (take (b - a)) beyond ∙ take-append-le (b - a) (drop a xs) ys (omega (arith, long, within))

-- a range that has as many bytes as it is long ends within the list
ends_within : (a n : ℕ) (xs : List ℕ) → a ≤ length xs → n ≡ length (slice_range xs a (a + n)) → a + n ≤ length xs
ends_within a n xs begins h =
    let whole : length (slice_range xs a (a + n)) ≡ min (a + n - a) (length (drop a xs)) = length-take (a + n - a) (drop a xs) in
    let long : length (drop a xs) ≡ length xs - a = length-drop a xs in
    omega (arith, clamps, whole, long, h, begins)

-- an entry
stands_kept : (k s : ℕ) (xs ys : List ℕ) (e : Entry) → IsTimes k → StandsRaw k xs s e → StandsRaw k (xs ++ ys) s e
stands_kept k s xs ys e times at =
    let some = positive k times in
    let more = length-append xs ys in
    let spread : k * (1 + data_of e) ≡ k + k * data_of e = omega arith in
    let begins : s + bytes_in k 1 ≤ s + bytes_in k (1 + data_of e) = omega (arith, spread) in
    let text : s + 32 + length e.text ≤ length xs = ends_within (s + 32) (length e.text) xs (omega (arith, some, begins, at.whole)) (ap length at.text) in
    record {
      whole = omega (arith, at.whole, more);
      sector = at.sector ∙ sym (number_kept 8 s xs ys (omega (arith, some, begins, at.whole)));
      count = at.count ∙ sym (number_kept 8 (s + 8) xs ys (omega (arith, some, begins, at.whole)));
      flags = at.flags ∙ sym (number_kept 8 (s + 16) xs ys (omega (arith, some, begins, at.whole)));
      text_length = at.text_length ∙ sym (number_kept 8 (s + 24) xs ys (omega (arith, some, begins, at.whole)));
      text = at.text ∙ sym (range_kept (s + 32) (s + 32 + length e.text) xs ys (omega arith) text);
      content = at.content ∙ sym (range_kept (s + bytes_in k 1) (s + bytes_in k (1 + data_of e)) xs ys begins at.whole);
    }

-- a raw log
raw_kept : (k : ℕ) (xs ys : List ℕ) (es : List Entry) → RawText k xs es → RawText k (xs ++ ys) es
raw_kept k xs ys es raw =
    let some = positive k raw.times in
    let whole = raw.super.whole in
    let more = length-append xs ys in
    record {
      times = raw.times;
      super = record {
        whole = omega (arith, whole, more);
        magic = number_kept 8 0 xs ys (omega (arith, some, whole)) ∙ raw.super.magic;
        version = number_kept 8 8 xs ys (omega (arith, some, whole)) ∙ raw.super.version;
        entries = number_kept 8 16 xs ys (omega (arith, some, whole)) ∙ raw.super.entries;
        sector_size = number_kept 4 24 xs ys (omega (arith, some, whole)) ∙ raw.super.sector_size;
      };
      stands = λ i e h. stands_kept k (bytes_in k (place es i)) xs ys e raw.times (raw.stands i e h);
    }

pub imported_alike : RawIsImportedAlike
imported_alike bytes text sectors limits made =
    let all : read_raw limits bytes ++ drop (needed_length limits bytes) bytes ≡ bytes = take-append-drop (needed_length limits bytes) bytes in
    record {
      k = made.k;
      entries = made.entries;
      raw = subst (λ (xs : List ℕ). RawText made.k xs made.entries) all (raw_kept made.k (read_raw limits bytes) (drop (needed_length limits bytes) bytes) made.entries made.raw);
      importable = made.importable;
      same = made.same;
    }
