-- No check fails at a text of a log.
use Rattle.std.proofs.Common.{ℕ, zero, suc, ◌≡◌, ◌+◌, ◌*◌, ◌<◌, ◌≤◌, ◌==◌, Bool, true, false, not, ◌&&◌, ◌||◌, nat_lt, nat_le, List, length, take, get_or, Some, None, refl, sym, ◌∙◌, ap, inl, inr, arith, add-one}
use Rattle.std.proofs.lemmas.Bool.Decides.{nat_tests}
use Rattle.std.proofs.lemmas.List.Sums.{sum_by_more, sum_by_more_le}
use Rattle.std.proofs.lemmas.Option.{slice_get_cases}
use Rattle.base.specs.Check.{first_failing}
use Rattle.base.specs.Sizes.{byte_limit, unit_limit}
use Rattle.base.specs.declared.limits.Limits.{Limits}
use Rattle.base.specs.Numbers.{number_at}
use Rattle.logfmt.specs.declared.entry.Entry.{Entry}
use Rattle.logfmt.specs.Flags.{flag_word, has_bit}
use Rattle.logfmt.specs.Bounds.{LogValue, IsEntry, IsMark, data_of, place, units_of}
use Rattle.logfmt.specs.LogText.{LogText, StandsAt, AllStand}
use Rattle.logfmt.specs.Faults.{in_super, in_entry, super_checks, entry_checks, has_mark_form, header, units_before, data_sectors, sector_at, count_at, word_at, length_at, entry_fault}
use Rattle.logfmt.specs.Laws.{TextHasNoFault}
use Rattle.logfmt.proofs.FlagBits.{flag_flush, flag_fua, flag_discard, flag_mark, flag_word-lt}
use Rattle.logfmt.proofs.Progress.{same_data}

super_passes : (bytes : List ℕ) (log : LogValue) (limits : Limits) → LogText bytes log → length bytes ≤ byte_limit limits
    → first_failing (super_checks bytes limits) ≡ None
unfolding super_checks
super_passes bytes log limits text short =
    let whole : nat_le 512 (length bytes) ≡ true = grind (arith, nat_tests, text.super.whole) in
    let size : nat_le (length bytes) (byte_limit limits) ≡ true = grind (arith, nat_tests, short) in
    let few : nat_le (number_at 8 16 bytes) 65536 ≡ true = grind (arith, nat_tests, text.super.entries, text.bounds.count) in
    rw (whole, size, text.super.magic, text.super.version, text.super.sector_size, few) refl

-- the flags of an entry and the bits of the word in its header
bit_is : (bytes : List ℕ) (p : ℕ) (e : Entry) (bit : ℕ) (flag : Bool) → StandsAt bytes p e → flag ≡ has_bit (flag_word e.flags) bit
    → has_bit (word_at bytes p) bit ≡ flag
bit_is bytes p e bit flag stands is = ap (λ w. has_bit w bit) (sym stands.flags) ∙ sym is

length_passes : (bytes : List ℕ) (sectors p : ℕ) (e : Entry) → StandsAt bytes p e → IsEntry sectors e
    → (has_bit (word_at bytes p) 8 || (length_at bytes p == 0)) ≡ true
length_passes bytes sectors p e stands is =
    let bit = bit_is bytes p e 8 e.flags.mark stands (flag_mark e.flags) in
    let by_kind : (m : Bool) → e.flags.mark ≡ m → (m || (length_at bytes p == 0)) ≡ true =
    λ m. elim m as (λ v. e.flags.mark ≡ v → (v || (length_at bytes p == 0)) ≡ true) [
      | true ↦ λ k. refl
      | false ↦ λ k.
          let none : length_at bytes p ≡ 0 = sym stands.text_length ∙ ap (λ (t : List ℕ). length t) (is.other k) in
          rw none refl
    ] in
    rw bit (by_kind e.flags.mark refl)

mark_passes : (bytes : List ℕ) (sectors p : ℕ) (e : Entry) → StandsAt bytes p e → IsEntry sectors e → (e.flags.mark ≡ true → e.flags.flush ≡ false)
    → (not (has_bit (word_at bytes p) 8) || has_mark_form (word_at bytes p) (count_at bytes p) (length_at bytes p)) ≡ true
unfolding has_mark_form
mark_passes bytes sectors p e stands is recorded =
    let bit = bit_is bytes p e 8 e.flags.mark stands (flag_mark e.flags) in
    let flush = bit_is bytes p e 1 e.flags.flush stands (flag_flush e.flags) in
    let fua = bit_is bytes p e 2 e.flags.fua stands (flag_fua e.flags) in
    let discard = bit_is bytes p e 4 e.flags.discard stands (flag_discard e.flags) in
    let by_kind : (m : Bool) → e.flags.mark ≡ m
    → (not m || (not (has_bit (word_at bytes p) 1) && not (has_bit (word_at bytes p) 2) && not (has_bit (word_at bytes p) 4) && (count_at bytes p == 0) && nat_le (length_at bytes p) 480)) ≡ true =
    λ m. elim m as (λ v. e.flags.mark ≡ v → (not v || (not (has_bit (word_at bytes p) 1) && not (has_bit (word_at bytes p) 2) && not (has_bit (word_at bytes p) 4) && (count_at bytes p == 0) && nat_le (length_at bytes p) 480)) ≡ true) [
      | true ↦ λ k.
          let form : IsMark e = is.mark k in
          let none : count_at bytes p ≡ 0 = sym stands.count ∙ form.count in
          let short : nat_le (length_at bytes p) 480 ≡ true = grind (arith, nat_tests, form.text, stands.text_length) in
          rw (flush ∙ recorded k, fua ∙ form.fua, discard ∙ form.discard, none, short) refl
      | false ↦ λ k. refl
    ] in
    rw bit (by_kind e.flags.mark refl)

entry_passes : (bytes : List ℕ) (sectors : ℕ) (limits : Limits) (p units : ℕ) (e : Entry) → StandsAt bytes p e → IsEntry sectors e
    → (e.flags.mark ≡ true → e.flags.flush ≡ false) → units + e.count ≤ unit_limit limits
    → first_failing (entry_checks bytes sectors limits p units) ≡ None
unfolding entry_checks
entry_passes bytes sectors limits p units e stands is recorded few =
    let here : nat_le (512 * (p + 1)) (length bytes) ≡ true = grind (arith, nat_tests, stands.whole) in
    let known : nat_lt (word_at bytes p) 32 ≡ true = grind (arith, nat_tests, stands.flags, flag_word-lt e.flags) in
    let inside : ((count_at bytes p == 0) || nat_le (sector_at bytes p + count_at bytes p) sectors) ≡ true =
    grind (arith, nat_tests, stands.count, stands.sector, is.device) in
    let room : nat_le (units + count_at bytes p) (unit_limit limits) ≡ true = grind (arith, nat_tests, stands.count, few) in
    let beyond : data_of e ≡ data_sectors bytes p = same_data bytes p e stands in
    let whole : nat_le (512 * (p + 1 + data_sectors bytes p)) (length bytes) ≡ true = grind (arith, nat_tests, stands.whole, beyond) in
    rw (here, known, length_passes bytes sectors p e stands is, mark_passes bytes sectors p e stands is recorded, inside, room, whole) refl

header_place : (bytes : List ℕ) (es : List Entry) (i : ℕ) → AllStand bytes es → i ≤ length es → header bytes i ≡ place es i
header_place bytes es zero stand h = refl
header_place bytes es (suc i) stand h =
    let before : header bytes i ≡ place es i = header_place bytes es i stand (omega (arith, h)) in
    elim (slice_get_cases es i).1 [
      | inl a ↦
          let beyond : data_of a.0 ≡ data_sectors bytes (place es i) = same_data bytes (place es i) a.0 (stand i a.0 a.2) in
          rw (before, a.2, beyond) refl
      | inr past ↦ absurd (omega (arith, past.0, h))
    ]

units_so_far : (bytes : List ℕ) (es : List Entry) (i : ℕ) → AllStand bytes es → i ≤ length es → units_before bytes i ≡ units_of (take i es)
units_so_far bytes es zero stand h = refl
units_so_far bytes es (suc i) stand h =
    let before : units_before bytes i ≡ units_of (take i es) = units_so_far bytes es i stand (omega (arith, h)) in
    let placed : header bytes i ≡ place es i = header_place bytes es i stand (omega (arith, h)) in
    elim (slice_get_cases es i).1 [
      | inl a ↦
          let counts : a.0.count ≡ count_at bytes (place es i) = (stand i a.0 a.2).count in
          let next : take (suc i) es ≡ take (i + 1) es = ap (λ n. take n es) (sym (add-one i)) in
          let more : units_of (take (suc i) es) ≡ units_of (take i es) + (get_or es i a.0).count =
          ap units_of next ∙ sum_by_more (λ (x : Entry). x.count) es i a.0 a.1 in
          let is : get_or es i a.0 ≡ a.0 = a.3 in
          let same : (get_or es i a.0).count ≡ a.0.count = ap (λ (x : Entry). x.count) is in
          rw (before, placed, ← counts) (omega (arith, more, same))
      | inr past ↦ absurd (omega (arith, past.0, h))
    ]

text_passes : (bytes : List ℕ) (log : LogValue) (limits : Limits) (i : ℕ) → LogText bytes log → units_of log.entries ≤ unit_limit limits
    → i < length log.entries → entry_fault bytes log.sectors limits i ≡ None
text_passes bytes log limits i text units h =
    let es : List Entry = log.entries in
    let placed : header bytes i ≡ place es i = header_place bytes es i text.stands (omega (arith, h)) in
    let before : units_before bytes i ≡ units_of (take i es) = units_so_far bytes es i text.stands (omega (arith, h)) in
    elim (slice_get_cases es i).1 [
      | inl a ↦
          let part = sum_by_more_le (λ (x : Entry). x.count) es i a.0 h in
          let same : (get_or es i a.0).count ≡ a.0.count = ap (λ (x : Entry). x.count) a.3 in
          rw (placed, before)
          (entry_passes bytes log.sectors limits (place es i) (units_of (take i es)) a.0 (text.stands i a.0 a.2) (text.bounds.entries i a.0 a.2) (text.recorded i a.0 a.2) (omega (arith, part, same, units)))
      | inr past ↦ absurd (omega (arith, past.0, h))
    ]

-- the two definitions agree: no check fails at a text of a log
pub text_has_no_fault : TextHasNoFault
text_has_no_fault bytes log limits cause at text short few fault =
    elim fault as (λ k n _. ⊥) [
      | in_super c failing ↦ let bad : None ≡ Some c = sym (super_passes bytes log limits text short) ∙ failing in cc
      | in_entry c number clean lt pass failing ↦
          let within : number < length log.entries = omega (arith, lt, text.super.entries) in
          let bad : None ≡ Some c = sym (text_passes bytes log limits number text few within) ∙ failing in
          cc
    ]
