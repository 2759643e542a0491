-- What holds after the first n entries were imported: the invariant of the loop of `import`.
use Rattle.std.proofs.Common.{ℕ, suc, true, false, ◌≡◌, ◌+◌, ◌-◌, ◌*◌, ◌<◌, ◌≤◌, Bool, if◌then◌else◌, List, [], ◌∷◌, ◌++◌, length, map, Some, None, refl, sym, subst, ◌∙◌, ap, inl, inr, arith, length-append, add-one, append-nil, below_more}
use Rattle.std.specs.List.{flat_map, slice_range}
use Rattle.std.proofs.lemmas.List.{map-append, flat_map_more}
use Rattle.std.proofs.lemmas.List.Sums.{sum_by_push}
use Rattle.std.proofs.lemmas.Option.{slice_get_within}
use Rattle.base.specs.Sizes.{byte_limit, most_log_bytes, most_sectors, most_units, raw_limit, unit_limit}
use Rattle.base.specs.declared.limits.Limits.{Limits}
use Rattle.base.specs.declared.limits.Limits.TheVariants as limits
use Rattle.base.proofs.Lists.{slice_get_of_push}
use Rattle.base.specs.Check.{first_failing}
use Rattle.base.specs.Numbers.{number_at}
use Rattle.base.specs.declared.causes.LogCause.{LogCause}
use Rattle.logfmt.specs.declared.entry.Entry.{Entry}
use Rattle.logfmt.specs.Bounds.{IsLog, IsEntry, AreEntries, AreRecorded, units_of, data_of, place}
use Rattle.logfmt.specs.LogText.{super_sector, entry_sectors, canonical_text}
use Rattle.logfmt.proofs.FlagBits.{flag_discard}
use Rattle.logfmt.proofs.Progress.{place-push, place-last}
use Rattle.raw_log.specs.declared.header.RawHeader.{RawHeader}
use Rattle.raw_log.specs.Raw.{IsTimes, StandsRaw, AllStandRaw, bytes_in}
use Rattle.raw_log.specs.Faults.{FirstRawFault, in_entry, EntriesPass, raw_super_checks, raw_entry_checks, header, units_before, written_before, data_sectors, times_at}
use Rattle.raw_log.specs.Header.{SuperStands, HeaderStands, StandsDivided, data_bytes}
use Rattle.raw_log.specs.Imported.{IsImported, entry_of_raw}
use Rattle.raw_log.proofs.Lengths.{length_entry, length_super}

-- the first n entries are imported, the next header begins at byte s, the entries have u units, and the text so far is this
pub record Progress (bytes : List ℕ) (k sectors : ℕ) (limits : Limits) (text : List ℕ) (n s u : ℕ) : Type 0 where
  pub raw : List Entry
  pub made : List Entry
  pub divided : made ≡ map (entry_of_raw k) raw
  pub count : length raw ≡ n
  pub counted : length made ≡ n
  pub placed : bytes_in k (place raw n) ≡ s
  pub header : header k bytes n ≡ s
  pub before : units_before k bytes n ≡ u
  pub written : written_before k bytes n ≡ length text
  pub sum : units_of made ≡ u
  pub size : 512 * place made n ≡ length text
  pub canonical : text ≡ super_sector (number_at 8 16 bytes) ++ flat_map entry_sectors made
  pub need : s ≤ raw_limit limits
  pub within : u ≤ unit_limit limits
  pub room : length text ≤ byte_limit limits
  pub stand : AllStandRaw k bytes raw
  pub entries : AreEntries sectors made
  pub recorded : AreRecorded made
  pub pass : EntriesPass bytes sectors limits n

-- the entry in sectors of the raw log
abbrev raw_of : List ℕ → ℕ → Entry → Entry
raw_of bytes s e = record e { sector = number_at 8 s bytes; count = number_at 8 (s + 8) bytes }

divided_back : (k s : ℕ) (bytes : List ℕ) (e : Entry) → StandsDivided k bytes s e → entry_of_raw k (raw_of bytes s e) ≡ e
divided_back k s bytes e stands = λ i. record e { sector = sym stands.sector i; count = sym stands.count i }

-- its data in sectors of the raw log
data_divided : (k s : ℕ) (bytes : List ℕ) (e : Entry) → StandsDivided k bytes s e → data_of e ≡ k * data_of (raw_of bytes s e)
data_divided k s bytes e stands =
    let by_kind : (b : Bool) → (if b then 0 else e.count) ≡ k * (if b then 0 else number_at 8 (s + 8) bytes) =
    λ b. elim b as (λ v. (if v then 0 else e.count) ≡ k * (if v then 0 else number_at 8 (s + 8) bytes)) [
      | true ↦ omega arith
      | false ↦ stands.count
    ] in
    by_kind e.flags.discard

stands_raw : (k s : ℕ) (bytes : List ℕ) (e : Entry) → StandsDivided k bytes s e → StandsRaw k bytes s (raw_of bytes s e)
stands_raw k s bytes e stands =
    let r : Entry = raw_of bytes s e in
    let same : data_of e ≡ k * data_of r = data_divided k s bytes e stands in
    let ends : s + bytes_in k 1 + 512 * data_of e ≡ s + bytes_in k (1 + data_of r) = omega (arith, same) in
    record {
      whole = omega (arith, stands.whole, ends);
      sector = refl;
      count = refl;
      flags = stands.flags;
      text_length = stands.text_length;
      text = stands.text;
      content = stands.content ∙ ap (λ n. slice_range bytes (s + bytes_in k 1) n) ends;
    }

-- a raw entry and the header at its byte tell the same number of sectors of data
pub same_data : (k s : ℕ) (bytes : List ℕ) (e : Entry) → StandsRaw k bytes s e → data_of e ≡ data_sectors bytes s
same_data k s bytes e stands = rw (stands.count, flag_discard e.flags, stands.flags) refl

-- a header and the entry that is made of it tell the same number of bytes of data
same_bytes : (k s : ℕ) (bytes : List ℕ) (e : Entry) (h : RawHeader) → StandsDivided k bytes s e → HeaderStands k bytes s h → data_bytes h ≡ 512 * data_of e
same_bytes k s bytes e h stands has =
    let flag : e.flags.discard ≡ h.flags.discard = flag_discard e.flags ∙ (rw (stands.flags) (sym has.discard)) in
    let count : e.count ≡ h.count = stands.count ∙ sym has.count in
    rw (flag, count) refl

-- one entry more, whose header passes its checks
pub go_on : (bytes text : List ℕ) (k sectors : ℕ) (limits : Limits) (n s u : ℕ) (e : Entry)
    → times_at bytes ≡ k
    → Progress bytes k sectors limits text n s u
    → (w : ℕ) → w ≡ byte_limit limits - length text → first_failing (raw_entry_checks k bytes sectors limits s u w) ≡ None
    → StandsDivided k bytes s e → IsEntry sectors e → (e.flags.mark ≡ true → e.flags.flush ≡ false)
    → (h : RawHeader) → HeaderStands k bytes s h → u + h.count ≤ unit_limit limits
    → (d : ℕ) → d ≡ data_bytes h → 512 + d ≤ w → s + bytes_in k 1 + d ≤ raw_limit limits
    → length e.text ≤ 480
    → Progress bytes k sectors limits (text ++ entry_sectors e) (n + 1) (s + (512 * k + d)) (u + h.count)
go_on bytes text k sectors limits n s u e told so w w_is passes stands fits recorded h has few d d_is room need short =
    let long : length (entry_sectors e) ≡ 512 * (1 + data_of e) = length_entry sectors e fits short in
    let r : Entry = raw_of bytes s e in
    let here : StandsRaw k bytes s r = stands_raw k s bytes e stands in
    let back : entry_of_raw k r ≡ e = divided_back k s bytes e stands in
    let more : so.made ++ e ∷ [] ≡ map (entry_of_raw k) (so.raw ++ r ∷ []) =
    rw (map-append (entry_of_raw k) so.raw (r ∷ []), ← so.divided, back) refl in
    let count : e.count ≡ h.count = stands.count ∙ sym has.count in
    let beyond : data_of r ≡ data_sectors bytes s = same_data k s bytes r here in
    let content : data_of e ≡ k * data_of r = data_divided k s bytes e stands in
    let told_d : data_bytes h ≡ 512 * data_of e = same_bytes k s bytes e h stands has in
    let placed_raw : place (so.raw ++ r ∷ []) (suc (length so.raw)) ≡ place so.raw (length so.raw) + 1 + data_of r = place-last so.raw r in
    let placed_made : place (so.made ++ e ∷ []) (suc (length so.made)) ≡ place so.made (length so.made) + 1 + data_of e = place-last so.made e in
    let both = length-append text (entry_sectors e) in
    record {
      raw = so.raw ++ r ∷ [];
      made = so.made ++ e ∷ [];
      divided = more;
      count = omega (arith, length-append so.raw (r ∷ []), so.count);
      counted = omega (arith, length-append so.made (e ∷ []), so.counted);
      placed = rw (add-one n, ← so.count, placed_raw, so.count) (omega (arith, so.placed, content, told_d, d_is));
      header = rw (add-one n, so.header, ← beyond) (omega (arith, content, told_d, d_is));
      before = rw (add-one n, so.header, so.before, has.count) refl;
      written = rw (add-one n, so.header, ← beyond) (omega (arith, so.written, both, long, content));
      sum = sum_by_push (λ (x : Entry). x.count) so.made e ∙ (rw (so.sum, count) refl);
      size = rw (add-one n, ← so.counted, placed_made, so.counted) (omega (arith, so.size, both, long));
      canonical = ap (λ (xs : List ℕ). xs ++ entry_sectors e) so.canonical ∙ flat_map_more entry_sectors (super_sector (number_at 8 16 bytes)) so.made e;
      need = omega (arith, need);
      within = few;
      room = omega (arith, both, long, room, told_d, d_is, w_is, so.room);
      stand = λ i x j. elim (slice_get_of_push so.raw r i x j) [
        | inl was ↦ let lt : i < length so.raw = slice_get_within so.raw i x was in rw (place-push so.raw r i (omega (arith, lt))) (so.stand i x was)
        | inr last ↦ rw (last.0, last.1, place-push so.raw r (length so.raw) (omega arith), so.count, so.placed) here
      ];
      entries = λ i x j. elim (slice_get_of_push so.made e i x j) [
        | inl was ↦ so.entries i x was
        | inr last ↦ rw last.1 fits
      ];
      recorded = λ i x j. elim (slice_get_of_push so.made e i x j) [
        | inl was ↦ so.recorded i x was
        | inr last ↦ rw last.1 recorded
      ];
      pass = below_more _ n so.pass (rw (told, so.header, so.before, so.written, ← w_is) passes);
    }

-- the limits of a log, which are no more than the larger ones
byte_limit_some : (limits : Limits) → 512 ≤ byte_limit limits
byte_limit_some limits.Usual = omega arith
byte_limit_some limits.Large = omega arith

byte_limit_most : (limits : Limits) → byte_limit limits ≤ most_log_bytes
byte_limit_most limits.Usual = omega arith
byte_limit_most limits.Large = omega arith

unit_limit_most : (limits : Limits) → unit_limit limits ≤ most_units
unit_limit_most limits.Usual = omega arith
unit_limit_most limits.Large = omega arith

raw_limit_some : (limits : Limits) → 4096 ≤ raw_limit limits
raw_limit_some limits.Usual = omega arith
raw_limit_some limits.Large = omega arith

-- where all entries are imported the text is what was promised
pub whole : (bytes text : List ℕ) (k sectors : ℕ) (limits : Limits) (n s u : ℕ) → SuperStands bytes k → 1 ≤ sectors → sectors ≤ most_sectors → number_at 8 16 bytes ≡ n
    → Progress bytes k sectors limits text n s u → IsImported bytes sectors limits text
whole bytes text k sectors limits n s u super some device count so =
    let made : List Entry = so.made in
    let log : IsLog (record { sectors = sectors; entries = made; initial = [] }) = record {
      some = some;
      device = omega (arith, device);
      count = omega (arith, super.count, count, so.counted);
      units = omega (arith, so.sum, so.within, unit_limit_most limits);
      entries = so.entries;
      size = rw so.counted (omega (arith, so.size, so.room, byte_limit_most limits));
      held = omega arith;
      initial = λ i. omega arith;
    } in
    let small : 512 * place made (length made) ≤ byte_limit limits = rw so.counted (omega (arith, so.size, so.room)) in
    let few : units_of made ≤ unit_limit limits = omega (arith, so.sum, so.within) in
    let text_is : text ≡ canonical_text made = so.canonical ∙ ap (λ c. super_sector c ++ flat_map entry_sectors made) (count ∙ sym so.counted) in
    let need : bytes_in k (place so.raw (length so.raw)) ≤ raw_limit limits = rw (so.count, so.placed) so.need in
    record {
      k = k;
      entries = so.raw;
      raw = record {
        times = super.times;
        super = record { whole = super.whole; magic = super.magic; version = super.version; entries = count ∙ sym so.count; sector_size = super.sector_size };
        stands = so.stand;
      };
      importable = record {
        log = subst (λ (es : List Entry). IsLog (record { sectors = sectors; entries = es; initial = [] })) so.divided log;
        size = subst (λ (es : List Entry). 512 * place es (length es) ≤ byte_limit limits) so.divided small;
        units = subst (λ (es : List Entry). units_of es ≤ unit_limit limits) so.divided few;
        recorded = subst AreRecorded so.divided so.recorded;
        need = need;
      };
      same = text_is ∙ ap canonical_text so.divided;
    }

-- the first fault, at an entry after those that passed
pub fault_here : (bytes text : List ℕ) (k sectors : ℕ) (limits : Limits) (n s u : ℕ) (c : LogCause) → times_at bytes ≡ k → first_failing (raw_super_checks bytes) ≡ None
    → n < number_at 8 16 bytes → Progress bytes k sectors limits text n s u → (w : ℕ) → w ≡ byte_limit limits - length text → first_failing (raw_entry_checks k bytes sectors limits s u w) ≡ Some c
    → FirstRawFault bytes sectors limits c n
fault_here bytes text k sectors limits n s u c told clean lt so w w_is failing =
    in_entry c n clean lt so.pass (rw (told, so.header, so.before, so.written, ← w_is) failing)

-- before the first entry
pub start : (bytes old text : List ℕ) (k sectors : ℕ) (limits : Limits) (count : ℕ) → IsTimes k → count ≡ number_at 8 16 bytes → old ≡ [] → text ≡ old ++ super_sector count
    → Progress bytes k sectors limits text 0 (512 * k) 0
start bytes old text k sectors limits count times told none appended =
    let is : text ≡ super_sector count = appended ∙ ap (λ (xs : List ℕ). xs ++ super_sector count) none in
    let long : length text ≡ 512 = ap length is ∙ length_super count in
    let whole : bytes_in k 1 ≡ 512 * k = omega arith in
    record {
      raw = [];
      made = [];
      divided = refl;
      count = refl;
      counted = refl;
      placed = whole;
      header = whole;
      before = refl;
      written = sym long;
      sum = refl;
      size = sym long;
      canonical = is ∙ ap super_sector told ∙ simp append-nil;
      need = elim times [ inl one ↦ omega (arith, one, raw_limit_some limits) | inr eight ↦ omega (arith, eight, raw_limit_some limits) ];
      within = omega arith;
      room = omega (arith, long, byte_limit_some limits);
      stand = λ i e h. absurd (let bad : None ≡ Some e = h in cc);
      entries = λ i e h. absurd (let bad : None ≡ Some e = h in cc);
      recorded = λ i e h. absurd (let bad : None ≡ Some e = h in cc);
      pass = λ i h. absurd (omega (arith, h));
    }
