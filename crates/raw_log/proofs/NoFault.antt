-- No check fails at a raw log of entries that can be imported.
use Rattle.std.proofs.Common.{ℕ, zero, suc, ◌≡◌, ◌+◌, ◌*◌, ◌/◌, ◌^◌, ◌<◌, ◌≤◌, ◌==◌, Bool, true, false, not, ◌&&◌, ◌||◌, nat_lt, nat_le, if◌then◌else◌, ◌-◌, List, [], ◌∷◌, length, map, take, get_or, slice_get, Some, None, refl, sym, ◌∙◌, ap, inl, inr, arith, add-one}
use Rattle.std.proofs.Math.Nat.{mul-le-mul_left}
use Rattle.std.proofs.lemmas.Bool.Decides.{nat_tests}
use Rattle.std.proofs.lemmas.List.{length-map}
use Rattle.std.proofs.lemmas.List.Sums.{sum_by-cons, sum_by_more, sum_by_more_le}
use Rattle.std.proofs.lemmas.Option.{slice_get_cases, slice_get-map}
use Rattle.std.specs.List.{sum_by}
use Rattle.base.specs.Sizes.{byte_limit, raw_limit, unit_limit}
use Rattle.base.specs.declared.limits.Limits.{Limits}
use Rattle.base.specs.Check.{first_failing}
use Rattle.base.specs.Numbers.{number_at}
use Rattle.logfmt.specs.declared.entry.Entry.{Entry}
use Rattle.logfmt.specs.Flags.{flag_word, has_bit}
use Rattle.logfmt.specs.Bounds.{IsEntry, IsMark, data_of, place, units_of}
use Rattle.logfmt.specs.Faults.{has_mark_form}
use Rattle.logfmt.proofs.FlagBits.{flag_flush, flag_fua, flag_discard, flag_mark, flag_word-lt}
use Rattle.raw_log.specs.Raw.{IsTimes, StandsRaw, AllStandRaw, RawText, bytes_in}
use Rattle.raw_log.specs.Faults.{in_super, in_entry, raw_super_checks, raw_entry_checks, raw_entry_fault, is_on_device, size_at, times_at, header, units_before, written_before, data_sectors, sector_at, count_at, word_at, length_at}
use Rattle.raw_log.specs.Imported.{IsImportable, entry_of_raw}
use Rattle.raw_log.specs.Laws.{RawHasNoFault, ImportedHasNoFault}
use Rattle.raw_log.proofs.Progress.{same_data}

-- what the super block of a raw log tells
pub told : (k : ℕ) (bytes : List ℕ) (es : List Entry) → RawText k bytes es → times_at bytes ≡ k
told k bytes es raw = elim raw.times [
  | inl one ↦
      let size : number_at 4 24 bytes ≡ 512 = raw.super.sector_size ∙ ap (λ n. bytes_in n 1) one in
      ap (λ n. n / 512) size ∙ sym one
  | inr eight ↦
      let size : number_at 4 24 bytes ≡ 4096 = raw.super.sector_size ∙ ap (λ n. bytes_in n 1) eight in
      ap (λ n. n / 512) size ∙ sym eight
]

pub known_size : (k : ℕ) (bytes : List ℕ) (es : List Entry) → RawText k bytes es → ((size_at bytes == 512) || (size_at bytes == 4096)) ≡ true
known_size k bytes es raw = elim raw.times [
  | inl one ↦
      let size : number_at 4 24 bytes ≡ 512 = raw.super.sector_size ∙ ap (λ n. bytes_in n 1) one in
      rw size refl
  | inr eight ↦
      let size : number_at 4 24 bytes ≡ 4096 = raw.super.sector_size ∙ ap (λ n. bytes_in n 1) eight in
      rw size refl
]

pub positive : (k : ℕ) → IsTimes k → 1 ≤ k
positive k times = elim times [ inl one ↦ omega (arith, one) | inr eight ↦ omega (arith, eight) ]

-- a product with it is no less
no_less : (k n : ℕ) → IsTimes k → n ≤ k * n
no_less k n times = elim times [
  | inl one ↦ let e : k * n ≡ 1 * n = ap (λ (x : ℕ). x * n) one in omega (arith, e)
  | inr eight ↦ let e : k * n ≡ 8 * n = ap (λ (x : ℕ). x * n) eight in omega (arith, e)
]

super_passes : (k sectors : ℕ) (limits : Limits) (bytes : List ℕ) (es : List Entry) → RawText k bytes es → IsImportable k sectors limits es → first_failing (raw_super_checks bytes) ≡ None
unfolding raw_super_checks
super_passes k sectors limits bytes es raw can =
    let some : 1 ≤ k = positive k raw.times in
    let whole : nat_le 512 (length bytes) ≡ true = grind (arith, nat_tests, raw.super.whole, some) in
    let size : nat_le (size_at bytes) (length bytes) ≡ true = grind (arith, nat_tests, raw.super.whole, raw.super.sector_size) in
    let few : nat_le (number_at 8 16 bytes) 65536 ≡ true = grind (arith, nat_tests, raw.super.entries, can.log.count, length-map es (entry_of_raw k)) in
    rw (whole, raw.super.magic, raw.super.version, known_size k bytes es raw, size, few) refl

-- the flags of an entry and the bits of the word in its header
bit_is : (k : ℕ) (bytes : List ℕ) (s : ℕ) (e : Entry) (bit : ℕ) (flag : Bool) → StandsRaw k bytes s e → flag ≡ has_bit (flag_word e.flags) bit
    → has_bit (word_at bytes s) bit ≡ flag
bit_is k bytes s e bit flag stands is = ap (λ w. has_bit w bit) (sym stands.flags) ∙ sym is

length_passes : (k sectors : ℕ) (bytes : List ℕ) (s : ℕ) (e : Entry) → StandsRaw k bytes s e → IsEntry sectors (entry_of_raw k e)
    → (has_bit (word_at bytes s) 8 || (length_at bytes s == 0)) ≡ true
length_passes k sectors bytes s e stands is =
    let bit = bit_is k bytes s e 8 e.flags.mark stands (flag_mark e.flags) in
    let by_kind : (m : Bool) → e.flags.mark ≡ m → (m || (length_at bytes s == 0)) ≡ true =
    λ m. elim m as (λ v. e.flags.mark ≡ v → (v || (length_at bytes s == 0)) ≡ true) [
      | true ↦ λ h. refl
      | false ↦ λ h.
          let none : length_at bytes s ≡ 0 = sym stands.text_length ∙ ap (λ (t : List ℕ). length t) (is.other h) in
          rw none refl
    ] in
    rw bit (by_kind e.flags.mark refl)

mark_passes : (k sectors : ℕ) (bytes : List ℕ) (s : ℕ) (e : Entry) → IsTimes k → StandsRaw k bytes s e → IsEntry sectors (entry_of_raw k e)
    → (e.flags.mark ≡ true → e.flags.flush ≡ false)
    → (not (has_bit (word_at bytes s) 8) || has_mark_form (word_at bytes s) (count_at bytes s) (length_at bytes s)) ≡ true
unfolding has_mark_form
mark_passes k sectors bytes s e times stands is recorded =
    let bit = bit_is k bytes s e 8 e.flags.mark stands (flag_mark e.flags) in
    let flush = bit_is k bytes s e 1 e.flags.flush stands (flag_flush e.flags) in
    let fua = bit_is k bytes s e 2 e.flags.fua stands (flag_fua e.flags) in
    let discard = bit_is k bytes s e 4 e.flags.discard stands (flag_discard e.flags) in
    let by_kind : (m : Bool) → e.flags.mark ≡ m
    → (not m || (not (has_bit (word_at bytes s) 1) && not (has_bit (word_at bytes s) 2) && not (has_bit (word_at bytes s) 4) && (count_at bytes s == 0) && nat_le (length_at bytes s) 480)) ≡ true =
    λ m. elim m as (λ v. e.flags.mark ≡ v → (not v || (not (has_bit (word_at bytes s) 1) && not (has_bit (word_at bytes s) 2) && not (has_bit (word_at bytes s) 4) && (count_at bytes s == 0) && nat_le (length_at bytes s) 480)) ≡ true) [
      | true ↦ λ h.
          let form : IsMark (entry_of_raw k e) = is.mark h in
          let less = no_less k e.count times in
          let no_count : e.count ≡ 0 = omega (arith, less, form.count) in
          let none : count_at bytes s ≡ 0 = sym stands.count ∙ no_count in
          let short : nat_le (length_at bytes s) 480 ≡ true = grind (arith, nat_tests, form.text, stands.text_length) in
          rw (flush ∙ recorded h, fua ∙ form.fua, discard ∙ form.discard, none, short) refl
      | false ↦ λ h. refl
    ] in
    rw bit (by_kind e.flags.mark refl)

device_passes : (k sectors : ℕ) (bytes : List ℕ) (s : ℕ) (e : Entry) → IsTimes k → StandsRaw k bytes s e → IsEntry sectors (entry_of_raw k e)
    → is_on_device k sectors (sector_at bytes s) (count_at bytes s) ≡ true
device_passes k sectors bytes s e times stands is =
    let less = no_less k e.count times in
    let fits : k * e.sector < 2 ^ 64 = is.fits in
    let device : 0 < k * e.count → k * e.sector + k * e.count ≤ sectors = is.device in
    let small : nat_lt (k * e.sector) (2 ^ 64) ≡ true = grind (arith, nat_tests, fits) in
    let inside : ((e.count == 0) || nat_le (k * e.sector + k * e.count) sectors) ≡ true = grind (arith, nat_tests, device, less) in
    rw (← stands.sector, ← stands.count, small, inside) refl

entry_passes : (k sectors : ℕ) (limits : Limits) (bytes : List ℕ) (s units room : ℕ) (e : Entry) → IsTimes k → StandsRaw k bytes s e → IsEntry sectors (entry_of_raw k e)
    → (e.flags.mark ≡ true → e.flags.flush ≡ false) → units + k * e.count ≤ unit_limit limits → 512 * (1 + k * data_of e) ≤ room
    → s + bytes_in k (1 + data_of e) ≤ raw_limit limits
    → first_failing (raw_entry_checks k bytes sectors limits s units room) ≡ None
unfolding raw_entry_checks
entry_passes k sectors limits bytes s units room e times stands is recorded few fitting need =
    let beyond : data_of e ≡ data_sectors bytes s = same_data k s bytes e stands in
    let first : nat_le (s + bytes_in k 1) (raw_limit limits) ≡ true = grind (arith, nat_tests, need) in
    let here : nat_le (s + bytes_in k 1) (length bytes) ≡ true = grind (arith, nat_tests, stands.whole) in
    let known : nat_lt (word_at bytes s) 32 ≡ true = grind (arith, nat_tests, stands.flags, flag_word-lt e.flags) in
    let small : nat_le (units + k * count_at bytes s) (unit_limit limits) ≡ true = rw (← stands.count) (grind (arith, nat_tests, few)) in
    let fits : nat_le (512 * (1 + k * data_sectors bytes s)) room ≡ true = rw (← beyond) (grind (arith, nat_tests, fitting)) in
    let within : nat_le (s + bytes_in k (1 + data_sectors bytes s)) (raw_limit limits) ≡ true = rw (← beyond) (grind (arith, nat_tests, need)) in
    let whole : nat_le (s + bytes_in k (1 + data_sectors bytes s)) (length bytes) ≡ true = rw (← beyond) (grind (arith, nat_tests, stands.whole)) in
    rw (first, here, known, length_passes k sectors bytes s e stands is, mark_passes k sectors bytes s e times stands is recorded, device_passes k sectors bytes s e times stands is, small, fits, within, whole) refl

-- places by entries and by bytes
pub header_place : (k : ℕ) (bytes : List ℕ) (es : List Entry) (i : ℕ) → AllStandRaw k bytes es → i ≤ length es → header k bytes i ≡ bytes_in k (place es i)
header_place k bytes es zero stand h = refl
header_place k bytes es (suc i) stand h =
    let before : header k bytes i ≡ bytes_in k (place es i) = header_place k bytes es i stand (omega (arith, h)) in
    elim (slice_get_cases es i).1 [
      | inl a ↦
          let beyond : data_of a.0 ≡ data_sectors bytes (bytes_in k (place es i)) = same_data k (bytes_in k (place es i)) bytes a.0 (stand i a.0 a.2) in
          rw (before, a.2, ← beyond) (omega arith)
      | inr past ↦ absurd (omega (arith, past.0, h))
    ]

-- the units of an entry of a raw log
abbrev units : ℕ → Entry → ℕ
units k e = k * e.count

units_so_far : (k : ℕ) (bytes : List ℕ) (es : List Entry) (i : ℕ) → AllStandRaw k bytes es → i ≤ length es → units_before k bytes i ≡ sum_by (units k) (take i es)
units_so_far k bytes es zero stand h = refl
units_so_far k bytes es (suc i) stand h =
    let before : units_before k bytes i ≡ sum_by (units k) (take i es) = units_so_far k bytes es i stand (omega (arith, h)) in
    let placed : header k bytes i ≡ bytes_in k (place es i) = header_place k bytes es i stand (omega (arith, h)) in
    elim (slice_get_cases es i).1 [
      | inl a ↦
          let counts : a.0.count ≡ count_at bytes (bytes_in k (place es i)) = (stand i a.0 a.2).count in
          let next : take (suc i) es ≡ take (i + 1) es = ap (λ n. take n es) (sym (add-one i)) in
          let more : sum_by (units k) (take (suc i) es) ≡ sum_by (units k) (take i es) + units k (get_or es i a.0) =
          ap (sum_by (units k)) next ∙ sum_by_more (units k) es i a.0 a.1 in
          let same : units k (get_or es i a.0) ≡ units k a.0 = ap (units k) a.3 in
          rw (before, placed, ← counts) (omega (arith, more, same))
      | inr past ↦ absurd (omega (arith, past.0, h))
    ]

units_divided : (k : ℕ) (es : List Entry) → units_of (map (entry_of_raw k) es) ≡ sum_by (units k) es
units_divided k [] = refl
units_divided k (e ∷ es) =
    let made = sum_by-cons (λ (x : Entry). x.count) (entry_of_raw k e) (map (entry_of_raw k) es) in
    let raw = sum_by-cons (units k) e es in
    let rest = units_divided k es in
    omega (arith, made, raw, rest)

-- the place of an entry in the log that comes out
data_kept : (k : ℕ) (e : Entry) → data_of (entry_of_raw k e) ≡ k * data_of e
data_kept k e =
    let by_kind : (b : Bool) → (if b then 0 else k * e.count) ≡ k * (if b then 0 else e.count) =
    λ b. elim b as (λ v. (if v then 0 else k * e.count) ≡ k * (if v then 0 else e.count)) [
      | true ↦ omega arith
      | false ↦ refl
    ] in
    by_kind e.flags.discard

written_place : (k : ℕ) (bytes : List ℕ) (es : List Entry) (i : ℕ) → AllStandRaw k bytes es → i ≤ length es
    → written_before k bytes i ≡ 512 * place (map (entry_of_raw k) es) i
written_place k bytes es zero stand h = refl
written_place k bytes es (suc i) stand h =
    let before : written_before k bytes i ≡ 512 * place (map (entry_of_raw k) es) i = written_place k bytes es i stand (omega (arith, h)) in
    let placed : header k bytes i ≡ bytes_in k (place es i) = header_place k bytes es i stand (omega (arith, h)) in
    elim (slice_get_cases es i).1 [
      | inl a ↦
          let beyond : data_of a.0 ≡ data_sectors bytes (bytes_in k (place es i)) = same_data k (bytes_in k (place es i)) bytes a.0 (stand i a.0 a.2) in
          let there : slice_get (map (entry_of_raw k) es) i ≡ Some (entry_of_raw k a.0) = slice_get-map (entry_of_raw k) es i ∙ rw a.2 refl in
          let kept : data_of (entry_of_raw k a.0) ≡ k * data_of a.0 = data_kept k a.0 in
          rw (before, placed, there, ← beyond, kept) (omega arith)
      | inr past ↦ absurd (omega (arith, past.0, h))
    ]

-- a later place is no less
later : (es : List Entry) (i n : ℕ) → place es i ≤ place es (i + n)
later es i zero = let e : i + 0 ≡ i = omega arith in rw e (omega arith)
later es i (suc n) =
    let e : i + suc n ≡ suc (i + n) = omega arith in
    let before = later es i n in
    rw e (omega (arith, before))

text_passes : (k sectors : ℕ) (limits : Limits) (bytes : List ℕ) (es : List Entry) (i : ℕ) → RawText k bytes es → IsImportable k sectors limits es → i < length es
    → raw_entry_fault k bytes sectors limits i ≡ None
text_passes k sectors limits bytes es i raw can h =
    let made : List Entry = map (entry_of_raw k) es in
    let long : length made ≡ length es = length-map es (entry_of_raw k) in
    let placed : header k bytes i ≡ bytes_in k (place es i) = header_place k bytes es i raw.stands (omega (arith, h)) in
    let before : units_before k bytes i ≡ sum_by (units k) (take i es) = units_so_far k bytes es i raw.stands (omega (arith, h)) in
    let written : written_before k bytes i ≡ 512 * place made i = written_place k bytes es i raw.stands (omega (arith, h)) in
    elim (slice_get_cases es i).1 [
      | inl a ↦
          let there : slice_get made i ≡ Some (entry_of_raw k a.0) = slice_get-map (entry_of_raw k) es i ∙ rw a.2 refl in
          let part = sum_by_more_le (units k) es i a.0 h in
          let same : units k (get_or es i a.0) ≡ units k a.0 = ap (units k) a.3 in
          let all : units_of made ≤ unit_limit limits = can.units in
          let sum = units_divided k es in
          let kept : data_of (entry_of_raw k a.0) ≡ k * data_of a.0 = data_kept k a.0 in
          let next : place made (suc i) ≡ place made i + 1 + k * data_of a.0 = rw (there, kept) refl in
          let next_raw : place es (suc i) ≡ place es i + 1 + data_of a.0 = rw a.2 refl in
          let to_end : suc i + (length es - suc i) ≡ length es = omega (arith, h) in
          let up : place made (suc i) ≤ place made (length es) = rw (← to_end) (later made (suc i) (length es - suc i)) in
          let up_raw : place es (suc i) ≤ place es (length es) = rw (← to_end) (later es (suc i) (length es - suc i)) in
          let size : 512 * place made (length made) ≤ byte_limit limits = can.size in
          let sized : 512 * place made (length es) ≤ byte_limit limits = rw (← long) size in
          let times_up : k * place es (suc i) ≤ k * place es (length es) = mul-le-mul_left k up_raw in
          let spread : k * place es (suc i) ≡ k * (place es i + 1 + data_of a.0) = ap (λ (n : ℕ). k * n) next_raw in
          rw (placed, before, written)
          (entry_passes k sectors limits bytes (bytes_in k (place es i)) (sum_by (units k) (take i es)) (byte_limit limits - 512 * place made i) a.0 raw.times (raw.stands i a.0 a.2)
          (can.log.entries i (entry_of_raw k a.0) there) (can.recorded i (entry_of_raw k a.0) there) (omega (arith, part, same, all, sum)) (omega (arith, next, up, sized)) (omega (arith, can.need, times_up, spread)))
      | inr past ↦ absurd (omega (arith, past.0, h))
    ]

pub raw_has_no_fault : RawHasNoFault
raw_has_no_fault k sectors limits bytes es cause at raw can fault =
    elim fault as (λ c n _. ⊥) [
      | in_super c failing ↦ let bad : None ≡ Some c = sym (super_passes k sectors limits bytes es raw can) ∙ failing in cc
      | in_entry c number clean lt pass failing ↦
          let within : number < length es = omega (arith, lt, raw.super.entries) in
          let at_k : raw_entry_fault k bytes sectors limits number ≡ Some c = ap (λ (n : ℕ). raw_entry_fault n bytes sectors limits number) (sym (told k bytes es raw)) ∙ failing in
          let bad : None ≡ Some c = sym (text_passes k sectors limits bytes es number raw can within) ∙ at_k in
          cc
    ]

pub imported_has_no_fault : ImportedHasNoFault
imported_has_no_fault bytes text sectors limits cause at made fault =
    raw_has_no_fault made.k sectors limits bytes made.entries cause at made.raw made.importable fault
