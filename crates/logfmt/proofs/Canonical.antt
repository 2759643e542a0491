-- The canonical text of a log is a text of it.
use Rattle.std.proofs.Common.{ℕ, zero, suc, ◌≡◌, ◌+◌, ◌*◌, ◌-◌, ◌≤◌, Bool, true, false, List, [], ◌∷◌, ◌++◌, length, take, drop, slice_get, get_or, Some, refl, sym, subst, ◌∙◌, ap, arith, append_assoc, length-append, lit<}
use Rattle.std.specs.List.{slice_range, flat_map}
use Rattle.std.proofs.lemmas.List.{take_at, drop_at, take_all}
use Rattle.std.proofs.lemmas.List.Concat.{flat_map-append}
use Rattle.std.proofs.lemmas.List.Sums.{get_or-le-sum_by}
use Rattle.std.proofs.lemmas.Option.{slice_get_within, get_or_from_slice_get}
use Rattle.base.specs.Numbers.{number_at, number_bytes, zeros}
use Rattle.base.specs.Sizes.{most_units}
use Rattle.base.proofs.Lists.{split_at_place, number_at-number_bytes, length-number_bytes, length-zeros}
use Rattle.logfmt.specs.declared.entry.Entry.{Entry}
use Rattle.logfmt.specs.Flags.{flag_word}
use Rattle.logfmt.specs.Bounds.{IsEntry, AreEntries, data_of, place, units_of}
use Rattle.logfmt.specs.LogText.{IsSuper, StandsAt, AllStand, super_sector, header_sector, entry_sectors, canonical_text}
use Rattle.logfmt.specs.Laws.{CanonicalIsText, CanonicalReadsBack}
use Rattle.logfmt.proofs.FlagBits.{flag_word-lt}
use Rattle.logfmt.proofs.Unique.{text_of_one_log}

-- the text of an entry fits its header
text_fits : (sectors : ℕ) (e : Entry) → IsEntry sectors e → length e.text ≤ 480
text_fits sectors e is =
    let by_kind : (b : Bool) → e.flags.mark ≡ b → length e.text ≤ 480 =
    λ b. elim b as (λ v. e.flags.mark ≡ v → length e.text ≤ 480) [
      | true ↦ λ m. (is.mark m).text
      | false ↦ λ m. rw (is.other m) (omega arith)
    ] in
    by_kind e.flags.mark refl

length-super_sector : (n : ℕ) → length (super_sector n) ≡ 512
unfolding super_sector
length-super_sector n =
    simp (length-append, length-number_bytes, length-zeros) refl

length-header_sector : (e : Entry) → length e.text ≤ 480 → length (header_sector e) ≡ 512
unfolding header_sector
length-header_sector e short =
    simp (length-append, length-number_bytes, length-zeros) (omega (arith, short))

length-entry_sectors : (sectors : ℕ) (e : Entry) → IsEntry sectors e → length (entry_sectors e) ≡ 512 * (1 + data_of e)
length-entry_sectors sectors e is =
    let long = length-append (header_sector e) e.content in
    let head = length-header_sector e (text_fits sectors e is) in
    let content = is.content in
    omega (arith, long, head, content)

-- a part of a list between what stands before it and after it
slice_range-between : (front part rest : List ℕ) (i j : ℕ) → length front ≡ i → i + length part ≡ j
    → slice_range (front ++ (part ++ rest)) i j ≡ part
slice_range-between front part rest i j before to =
    let gap : j - i ≡ length part = omega (arith, to) in
    rw (gap, drop_at front (part ++ rest) i before) (take_at part rest (length part) refl)

-- an entry's sectors after 512 * p bytes stand in sector p
stands_after : (sectors : ℕ) (front rest : List ℕ) (p : ℕ) (e : Entry) → IsEntry sectors e → e.count ≤ most_units
    → length front ≡ 512 * p → StandsAt (front ++ (entry_sectors e ++ rest)) p e
unfolding header_sector
stands_after sectors front rest p e is few before =
    let short : length e.text ≤ 480 = text_fits sectors e is in
    let s : List ℕ = number_bytes 8 e.sector in
    let c : List ℕ = number_bytes 8 e.count in
    let w : List ℕ = number_bytes 8 (flag_word e.flags) in
    let l : List ℕ = number_bytes 8 (length e.text) in
    let z : List ℕ = zeros (480 - length e.text) in
    let after_text : List ℕ = z ++ (e.content ++ rest) in
    let s8 : length s ≡ 8 = length-number_bytes 8 e.sector in
    let c8 : length c ≡ 8 = length-number_bytes 8 e.count in
    let w8 : length w ≡ 8 = length-number_bytes 8 (flag_word e.flags) in
    let l8 : length l ≡ 8 = length-number_bytes 8 (length e.text) in
    let z480 : length z ≡ 480 - length e.text = length-zeros (480 - length e.text) in
    let word = flag_word-lt e.flags in
    let fits = is.fits in
    let long : length (entry_sectors e) ≡ 512 * (1 + data_of e) = length-entry_sectors sectors e is in
    let f1 : List ℕ = front ++ s in
    let f2 : List ℕ = f1 ++ c in
    let f3 : List ℕ = f2 ++ w in
    let f4 : List ℕ = f3 ++ l in
    let f5 : List ℕ = f4 ++ e.text in
    let f6 : List ℕ = f5 ++ z in
    let n1 : length f1 ≡ 512 * p + 8 = omega (arith, length-append front s, before, s8) in
    let n2 : length f2 ≡ 512 * p + 16 = omega (arith, length-append f1 c, n1, c8) in
    let n3 : length f3 ≡ 512 * p + 24 = omega (arith, length-append f2 w, n2, w8) in
    let n4 : length f4 ≡ 512 * p + 32 = omega (arith, length-append f3 l, n3, l8) in
    let n6 : length f6 ≡ 512 * (p + 1) = omega (arith, length-append f5 z, length-append f4 e.text, n4, z480, short) in
    let whole : List ℕ = front ++ (entry_sectors e ++ rest) in
    let at0 : whole ≡ front ++ (s ++ (c ++ (w ++ (l ++ (e.text ++ after_text))))) = simp append_assoc in
    let at1 : whole ≡ f1 ++ (c ++ (w ++ (l ++ (e.text ++ after_text)))) = simp append_assoc in
    let at2 : whole ≡ f2 ++ (w ++ (l ++ (e.text ++ after_text))) = simp append_assoc in
    let at3 : whole ≡ f3 ++ (l ++ (e.text ++ after_text)) = simp append_assoc in
    let at4 : whole ≡ f4 ++ (e.text ++ after_text) = simp append_assoc in
    let at6 : whole ≡ f6 ++ (e.content ++ rest) = simp append_assoc in
    record {
      whole = omega (arith, length-append front (entry_sectors e ++ rest), length-append (entry_sectors e) rest, long, before);
      sector = sym (ap (number_at 8 (512 * p)) at0 ∙ number_at-number_bytes 8 e.sector (512 * p) front _ (omega (arith, fits)) before);
      count = sym (ap (number_at 8 (512 * p + 8)) at1 ∙ number_at-number_bytes 8 e.count (512 * p + 8) f1 _ (omega (arith, few)) n1);
      flags = sym (ap (number_at 8 (512 * p + 16)) at2 ∙ number_at-number_bytes 8 (flag_word e.flags) (512 * p + 16) f2 _ (omega (arith, word)) n2);
      text_length = sym (ap (number_at 8 (512 * p + 24)) at3 ∙ number_at-number_bytes 8 (length e.text) (512 * p + 24) f3 _ (omega (arith, short)) n3);
      text = sym (ap (λ bytes. slice_range bytes (512 * p + 32) (512 * p + 32 + length e.text)) at4 ∙ slice_range-between f4 e.text after_text (512 * p + 32) (512 * p + 32 + length e.text) n4 refl);
      content = sym (ap (λ bytes. slice_range bytes (512 * (p + 1)) (512 * (p + 1 + data_of e))) at6 ∙ slice_range-between f6 e.content rest (512 * (p + 1)) (512 * (p + 1 + data_of e)) n6 (omega (arith, is.content)));
    }

-- the places after a first entry
place-cons : (e : Entry) (es : List Entry) (i : ℕ) → place (e ∷ es) (suc i) ≡ place es i + 1 + data_of e
place-cons e es zero = refl
place-cons e es (suc i) = let before = place-cons e es i in omega (arith, before)

-- the first i entries end where the next one stands
front_length : (sectors : ℕ) (es : List Entry) (i : ℕ) → AreEntries sectors es → i ≤ length es
    → 512 + length (flat_map entry_sectors (take i es)) ≡ 512 * place es i
front_length sectors es zero are h = refl
front_length sectors [] (suc i) are h = absurd (omega (arith, h))
front_length sectors (e ∷ es) (suc i) are h =
    let rest = front_length sectors es i (λ j x k. are (suc j) x k) (omega (arith, h)) in
    let long = length-entry_sectors sectors e (are 0 e refl) in
    let both = length-append (entry_sectors e) (flat_map entry_sectors (take i es)) in
    let placed = place-cons e es i in
    omega (arith, rest, long, both, placed)

-- an entry is no larger than the limit of units
count_fits : (es : List Entry) (i : ℕ) (e : Entry) → slice_get es i ≡ Some e → units_of es ≤ most_units → e.count ≤ most_units
count_fits es i e here units =
    let within = slice_get_within es i e here in
    let part = get_or-le-sum_by (λ (x : Entry). x.count) es i e within in
    let is : get_or es i e ≡ e = get_or_from_slice_get es i e e here in
    let counts : (get_or es i e).count ≡ e.count = ap (λ (x : Entry). x.count) is in
    omega (arith, part, counts, units)

all_stand : (sectors : ℕ) (es : List Entry) → AreEntries sectors es → units_of es ≤ most_units → AllStand (canonical_text es) es
all_stand sectors es are units i e here =
    let front : List ℕ = super_sector (length es) ++ flat_map entry_sectors (take i es) in
    let rest : List ℕ = flat_map entry_sectors (drop (suc i) es) in
    let parts : flat_map entry_sectors es ≡ flat_map entry_sectors (take i es) ++ (entry_sectors e ++ rest) =
    ap (flat_map entry_sectors) (split_at_place es i e here) ∙ flat_map-append entry_sectors (take i es) (e ∷ drop (suc i) es) in
    let whole : canonical_text es ≡ front ++ (entry_sectors e ++ rest) =
    ap (λ xs. super_sector (length es) ++ xs) parts
    ∙ sym (append_assoc (super_sector (length es)) (flat_map entry_sectors (take i es)) (entry_sectors e ++ rest)) in
    let within = slice_get_within es i e here in
    let before : length front ≡ 512 * place es i =
    omega (arith, length-append (super_sector (length es)) (flat_map entry_sectors (take i es)), length-super_sector (length es), front_length sectors es i are (omega (arith, within))) in
    let P : List ℕ → Type 0 = λ bytes. StandsAt bytes (place es i) e in
    subst P (sym whole) (stands_after sectors front rest (place es i) e (are i e here) (count_fits es i e here units) before)

is_super : (n : ℕ) (rest : List ℕ) → n ≤ 65536 → IsSuper (super_sector n ++ rest) n
unfolding super_sector
is_super n rest few =
    let m : List ℕ = number_bytes 8 0x6a736677736872 in
    let v : List ℕ = number_bytes 8 1 in
    let c : List ℕ = number_bytes 8 n in
    let s : List ℕ = number_bytes 4 512 in
    let z : List ℕ = zeros 484 in
    let m8 : length m ≡ 8 = length-number_bytes 8 0x6a736677736872 in
    let v8 : length v ≡ 8 = length-number_bytes 8 1 in
    let c8 : length c ≡ 8 = length-number_bytes 8 n in
    let f2 : List ℕ = m ++ v in
    let f3 : List ℕ = f2 ++ c in
    let n2 : length f2 ≡ 16 = omega (arith, length-append m v, m8, v8) in
    let n3 : length f3 ≡ 24 = omega (arith, length-append f2 c, n2, c8) in
    let long = length-super_sector n in
    let whole : List ℕ = super_sector n ++ rest in
    let at0 : whole ≡ [] ++ (m ++ (v ++ (c ++ (s ++ (z ++ rest))))) = simp append_assoc in
    let at1 : whole ≡ m ++ (v ++ (c ++ (s ++ (z ++ rest)))) = simp append_assoc in
    let at2 : whole ≡ f2 ++ (c ++ (s ++ (z ++ rest))) = simp append_assoc in
    let at3 : whole ≡ f3 ++ (s ++ (z ++ rest)) = simp append_assoc in
    record {
      whole = omega (arith, length-append (super_sector n) rest, long);
      magic = ap (number_at 8 0) at0 ∙ number_at-number_bytes 8 0x6a736677736872 0 [] _ (lit< tt) refl;
      version = ap (number_at 8 8) at1 ∙ number_at-number_bytes 8 1 8 m _ (lit< tt) m8;
      entries = ap (number_at 8 16) at2 ∙ number_at-number_bytes 8 n 16 f2 _ (omega (arith, few)) n2;
      sector_size = ap (number_at 4 24) at3 ∙ number_at-number_bytes 4 512 24 f3 _ (lit< tt) n3;
    }

pub canonical_is_text : CanonicalIsText
canonical_is_text log is recorded =
    let es : List Entry = log.entries in
    let whole = front_length log.sectors es (length es) is.entries (omega arith) in
    let all : take (length es) es ≡ es = take_all (length es) es (omega arith) in
    let entries : length (flat_map entry_sectors (take (length es) es)) ≡ length (flat_map entry_sectors es) =
    ap (λ xs. length (flat_map entry_sectors xs)) all in
    let long = length-append (super_sector (length es)) (flat_map entry_sectors es) in
    record {
      size = omega (arith, whole, entries, long, length-super_sector (length es), is.size);
      super = is_super (length es) (flat_map entry_sectors es) is.count;
      stands = all_stand log.sectors es is.entries is.units;
      bounds = is;
      recorded = recorded;
    }

pub canonical_reads_back : CanonicalReadsBack
canonical_reads_back log read is recorded text device held =
    text_of_one_log (canonical_text log.entries) read log text (canonical_is_text log is recorded) device held
