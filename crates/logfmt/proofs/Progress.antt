-- What holds after the first n entries were read: the invariant of the loop of `read`.
use Rattle.std.proofs.Common.{ℕ, zero, suc, true, false, ◌≡◌, ◌+◌, ◌*◌, ◌<◌, ◌≤◌, if◌then◌else◌, List, [], ◌∷◌, ◌++◌, length, slice_get, Some, None, refl, sym, ◌∙◌, inl, inr, arith, length-append, add-one, below_more}
use Rattle.std.proofs.lemmas.List.Sums.{sum_by_push}
use Rattle.std.proofs.lemmas.Option.{slice_get_within}
use Rattle.base.proofs.Lists.{slice_get-append_left, slice_get-push, slice_get_of_push}
use Rattle.base.specs.Check.{first_failing}
use Rattle.base.specs.Sizes.{most_sectors, most_units, unit_limit}
use Rattle.base.specs.declared.limits.Limits.{Limits}
use Rattle.base.specs.declared.limits.Limits.TheVariants as limits
use Rattle.logfmt.specs.declared.entry.Entry.{Entry}
use Rattle.logfmt.specs.Bounds.{IsEntry, AreEntries, AreRecorded, units_of, data_of, place}
use Rattle.base.specs.Numbers.{number_at}
use Rattle.base.specs.declared.causes.LogCause.{LogCause}
use Rattle.logfmt.specs.LogText.{LogText, StandsAt, AllStand}
use Rattle.logfmt.specs.Faults.{FirstFault, in_entry, SuperPasses, super_checks, EntriesPass, header, units_before, entry_checks, data_sectors}
use Rattle.logfmt.proofs.FlagBits.{flag_discard}
use Rattle.logfmt.specs.declared.header.Header.{Header}
use Rattle.logfmt.specs.Header.{HeaderStands}

-- the first n entries are read, the next header stands in sector p, and the entries have u units
pub record Progress (bytes : List ℕ) (sectors : ℕ) (limits : Limits) (es : List Entry) (n p u : ℕ) : Type 0 where
  pub count : length es ≡ n
  pub placed : place es n ≡ p
  pub header : header bytes n ≡ p
  pub before : units_before bytes n ≡ u
  pub sum : units_of es ≡ u
  pub inside : 512 * p ≤ length bytes
  pub within : u ≤ unit_limit limits
  pub stand : AllStand bytes es
  pub entries : AreEntries sectors es
  pub recorded : AreRecorded es
  pub pass : EntriesPass bytes sectors limits n

-- the header places do not depend on what follows
pub place-push : (es : List Entry) (e : Entry) (i : ℕ) → i ≤ length es → place (es ++ e ∷ []) i ≡ place es i
place-push es e zero h = refl
place-push es e (suc i) h =
    let lt : i < length es = omega (arith, h) in
    let here = place-push es e i (omega (arith, h)) in
    let same : slice_get (es ++ e ∷ []) i ≡ slice_get es i = slice_get-append_left es (e ∷ []) i lt in
    rw (here, same) refl

-- the place after the entry that was pushed
pub place-last : (es : List Entry) (e : Entry) → place (es ++ e ∷ []) (suc (length es)) ≡ place es (length es) + 1 + data_of e
place-last es e =
    let here = place-push es e (length es) (omega arith) in
    let last : slice_get (es ++ e ∷ []) (length es) ≡ Some e = slice_get-push es e in
    rw (here, last) refl

-- before the first entry
pub start : (bytes : List ℕ) (sectors : ℕ) (limits : Limits) → 512 ≤ length bytes → Progress bytes sectors limits [] 0 1 0
start bytes sectors limits h = record {
  count = refl;
  placed = refl;
  header = refl;
  before = refl;
  sum = refl;
  inside = omega arith;
  within = omega arith;
  stand = λ i e k. absurd (let bad : None ≡ Some e = k in cc);
  entries = λ i e k. absurd (let bad : None ≡ Some e = k in cc);
  recorded = λ i e k. absurd (let bad : None ≡ Some e = k in cc);
  pass = λ i k. absurd (omega (arith, k));
}

-- an entry and the header in its sector tell the same number of sectors of data
pub same_data : (bytes : List ℕ) (p : ℕ) (e : Entry) → StandsAt bytes p e → data_of e ≡ data_sectors bytes p
same_data bytes p e stands =
    rw (stands.count, flag_discard e.flags, stands.flags) refl

-- one entry more, whose header passes its checks
pub go_on : (bytes : List ℕ) (sectors : ℕ) (limits : Limits) (es : List Entry) (n p u : ℕ) (e : Entry)
    → Progress bytes sectors limits es n p u
    → first_failing (entry_checks bytes sectors limits p u) ≡ None
    → StandsAt bytes p e → IsEntry sectors e → (e.flags.mark ≡ true → e.flags.flush ≡ false)
    → (h : Header) → HeaderStands bytes p h → u + h.count ≤ unit_limit limits → (d : ℕ) → d ≡ (if h.flags.discard then 0 else h.count)
    → Progress bytes sectors limits (es ++ e ∷ []) (n + 1) (p + (1 + d)) (u + h.count)
go_on bytes sectors limits es n p u e so passes stands fits recorded h has room d beyond_is =
    let count : e.count ≡ h.count = stands.count ∙ sym has.count in
    let beyond : d ≡ data_sectors bytes p = beyond_is ∙ rw (has.discard, has.count) refl in
    let content : data_of e ≡ data_sectors bytes p = same_data bytes p e stands in
    record {
      count = omega (arith, length-append es (e ∷ []), so.count);
      placed = rw (add-one n, ← so.count, place-last es e, so.count, so.placed) (omega (arith, content, beyond));
      header = rw (add-one n, so.header, ← beyond) (omega arith);
      before = rw (add-one n, so.header, so.before, has.count) refl;
      sum = sum_by_push (λ (x : Entry). x.count) es e ∙ (rw (so.sum, count) refl);
      inside = omega (arith, has.whole, beyond);
      within = room;
      stand = λ i x k. elim (slice_get_of_push es e i x k) [
        | inl was ↦ let lt : i < length es = slice_get_within es i x was in rw (place-push es e i (omega (arith, lt))) (so.stand i x was)
        | inr last ↦ rw (last.0, last.1, place-push es e (length es) (omega arith), so.count, so.placed) stands
      ];
      entries = λ i x k. elim (slice_get_of_push es e i x k) [
        | inl was ↦ so.entries i x was
        | inr last ↦ rw last.1 fits
      ];
      recorded = λ i x k. elim (slice_get_of_push es e i x k) [
        | inl was ↦ so.recorded i x was
        | inr last ↦ rw last.1 recorded
      ];
      pass = below_more _ n so.pass (rw (so.header, so.before) passes);
    }

-- the limits of any log are the larger ones
unit_limit_most : (limits : Limits) → unit_limit limits ≤ most_units
unit_limit_most limits.Usual = omega arith
unit_limit_most limits.Large = omega arith

-- where all entries are read the bytes are the text of their log
pub whole_text : (bytes : List ℕ) (sectors : ℕ) (allowed : Limits) (es : List Entry) (n p u : ℕ) → SuperPasses bytes allowed → 1 ≤ sectors → sectors ≤ most_sectors
    → number_at 8 16 bytes ≡ n → Progress bytes sectors allowed es n p u → LogText bytes (record { sectors = sectors; entries = es; initial = [] })
whole_text bytes sectors allowed es n p u s some device count so = record {
  size = s.most;
  super = record { whole = s.whole; magic = s.magic; version = s.version; entries = count ∙ sym so.count; sector_size = s.sector_size };
  stands = so.stand;
  bounds = record { some = some; device = device; count = omega (arith, s.count, count, so.count); units = omega (arith, so.sum, so.within, unit_limit_most allowed); entries = so.entries; size = rw (so.count, so.placed) (omega (arith, so.inside, s.most)); held = omega arith; initial = λ i. omega arith };
  recorded = so.recorded;
}

-- the first fault, at an entry after those that passed
pub fault_here : (bytes : List ℕ) (sectors : ℕ) (allowed : Limits) (es : List Entry) (n p u : ℕ) (c : LogCause) → first_failing (super_checks bytes allowed) ≡ None
    → n < number_at 8 16 bytes → Progress bytes sectors allowed es n p u → first_failing (entry_checks bytes sectors allowed p u) ≡ Some c
    → FirstFault bytes sectors allowed c n
fault_here bytes sectors allowed es n p u c clean lt so failing =
    in_entry c n clean lt so.pass (rw (so.header, so.before) failing)
