-- A log is a raw log with sectors of 512 bytes, and what is imported is a log.
use Rattle.std.proofs.Common.{ℕ, ◌≡◌, ◌+◌, ◌*◌, ◌≤◌, List, [], ◌∷◌, length, map, refl, sym, subst, ◌∙◌, ap, inl, arith}
use Rattle.std.specs.List.{slice_range}
use Rattle.base.specs.Sizes.{byte_limit, raw_limit, unit_limit}
use Rattle.base.specs.declared.limits.Limits.{Limits}
use Rattle.base.specs.declared.limits.Limits.TheVariants as limits
use Rattle.base.specs.Numbers.{number_at}
use Rattle.logfmt.specs.declared.entry.Entry.{Entry}
use Rattle.logfmt.specs.Bounds.{LogValue, IsLog, AreBytes, AreRecorded, data_of, place, units_of}
use Rattle.logfmt.specs.Initial.{over}
use Rattle.logfmt.specs.LogText.{LogText, StandsAt, canonical_text}
use Rattle.logfmt.proofs.Canonical.{canonical_is_text}
use Rattle.raw_log.specs.Raw.{StandsRaw, bytes_in}
use Rattle.raw_log.specs.Imported.{imported_log, entry_of_raw}
use Rattle.raw_log.specs.Laws.{LogIsRaw, RawIsLog, LogIsKept, ImportedIsText, OneImport}
use Rattle.raw_log.proofs.Unique.{raw_of_one_log}

-- divided by one an entry stays
one_divided : (e : Entry) → entry_of_raw 1 e ≡ e
one_divided e =
    let sector : 1 * e.sector ≡ e.sector = omega arith in
    let count : 1 * e.count ≡ e.count = omega arith in
    λ i. record e { sector = sector i; count = count i }

all_divided : (es : List Entry) → map (entry_of_raw 1) es ≡ es
all_divided [] = refl
all_divided (e ∷ es) = λ i. one_divided e i ∷ all_divided es i

-- what is imported of a log that is divided by one is that log, but for what its device held before
same_log : (log : LogValue) → imported_log 1 log.sectors log.entries ≡ over [] log
same_log log = λ i. record { sectors = log.sectors; entries = all_divided log.entries i; initial = [] }

-- a log over something else
over_nothing : (log : LogValue) → IsLog log → IsLog (over [] log)
over_nothing log is = record {
  some = is.some;
  device = is.device;
  count = is.count;
  units = is.units;
  entries = is.entries;
  size = is.size;
  held = omega arith;
  initial = λ i. omega arith;
}

over_its : (log : LogValue) → IsLog (over [] log) → length log.initial ≤ 512 * log.sectors → AreBytes log.initial → IsLog log
over_its log is held initial = record {
  some = is.some;
  device = is.device;
  count = is.count;
  units = is.units;
  entries = is.entries;
  size = is.size;
  held = held;
  initial = initial;
}

-- where an entry of a log stands
stands_as_raw : (bytes : List ℕ) (p : ℕ) (e : Entry) → StandsAt bytes p e → StandsRaw 1 bytes (bytes_in 1 p) e
stands_as_raw bytes p e at =
    let s : bytes_in 1 p ≡ 512 * p = omega arith in
    let begins : bytes_in 1 p + bytes_in 1 1 ≡ 512 * (p + 1) = omega arith in
    let ends : bytes_in 1 p + bytes_in 1 (1 + data_of e) ≡ 512 * (p + 1 + data_of e) = omega arith in
    record {
      whole = omega (arith, at.whole, ends);
      sector = at.sector ∙ ap (λ n. number_at 8 n bytes) (sym s);
      count = at.count ∙ ap (λ n. number_at 8 (n + 8) bytes) (sym s);
      flags = at.flags ∙ ap (λ n. number_at 8 (n + 16) bytes) (sym s);
      text_length = at.text_length ∙ ap (λ n. number_at 8 (n + 24) bytes) (sym s);
      text = at.text ∙ ap (λ n. slice_range bytes (n + 32) (n + 32 + length e.text)) (sym s);
      content = at.content ∙ ap (λ n. slice_range bytes n (512 * (p + 1 + data_of e))) (sym begins) ∙ ap (λ n. slice_range bytes (bytes_in 1 p + bytes_in 1 1) n) (sym ends);
    }

stands_as_log : (bytes : List ℕ) (p : ℕ) (e : Entry) → StandsRaw 1 bytes (bytes_in 1 p) e → StandsAt bytes p e
stands_as_log bytes p e at =
    let s : bytes_in 1 p ≡ 512 * p = omega arith in
    let begins : bytes_in 1 p + bytes_in 1 1 ≡ 512 * (p + 1) = omega arith in
    let ends : bytes_in 1 p + bytes_in 1 (1 + data_of e) ≡ 512 * (p + 1 + data_of e) = omega arith in
    record {
      whole = omega (arith, at.whole, ends);
      sector = at.sector ∙ ap (λ n. number_at 8 n bytes) s;
      count = at.count ∙ ap (λ n. number_at 8 (n + 8) bytes) s;
      flags = at.flags ∙ ap (λ n. number_at 8 (n + 16) bytes) s;
      text_length = at.text_length ∙ ap (λ n. number_at 8 (n + 24) bytes) s;
      text = at.text ∙ ap (λ n. slice_range bytes (n + 32) (n + 32 + length e.text)) s;
      content = at.content ∙ ap (λ n. slice_range bytes (bytes_in 1 p + bytes_in 1 1) n) ends ∙ ap (λ n. slice_range bytes n (512 * (p + 1 + data_of e))) begins;
    }

-- no less of a raw log may be needed than a log may have
no_less : (limits : Limits) → byte_limit limits ≤ raw_limit limits
no_less limits.Usual = omega arith
no_less limits.Large = omega arith

pub log_is_raw : LogIsRaw
log_is_raw bytes log limits text =
    let whole : bytes_in 1 1 ≤ length bytes = omega (arith, text.super.whole) in (
      record {
        times = inl refl;
        super = record { whole = whole; magic = text.super.magic; version = text.super.version; entries = text.super.entries; sector_size = text.super.sector_size };
        stands = λ i e h. stands_as_raw bytes (place log.entries i) e (text.stands i e h);
      },
      λ few counted. record {
        log = subst IsLog (sym (same_log log)) (over_nothing log text.bounds);
        size = subst (λ (es : List Entry). 512 * place es (length es) ≤ byte_limit limits) (sym (all_divided log.entries)) few;
        units = subst (λ (es : List Entry). units_of es ≤ unit_limit limits) (sym (all_divided log.entries)) counted;
        recorded = subst AreRecorded (sym (all_divided log.entries)) text.recorded;
        need = omega (arith, few, no_less limits);
      },
    )

pub raw_is_log : RawIsLog
raw_is_log bytes log limits raw can size held initial =
    record {
      size = omega (arith, size);
      super = record { whole = omega (arith, raw.super.whole); magic = raw.super.magic; version = raw.super.version; entries = raw.super.entries; sector_size = raw.super.sector_size };
      stands = λ i e h. stands_as_log bytes (place log.entries i) e (raw.stands i e h);
      bounds = over_its log (subst IsLog (same_log log) can.log) held initial;
      recorded = subst AreRecorded (all_divided log.entries) can.recorded;
    }

pub imported_is_text : ImportedIsText
imported_is_text k sectors limits bytes text es raw made =
    let same = raw_of_one_log bytes k made.k es made.entries raw made.raw in
    let there : LogText text (imported_log made.k sectors made.entries) =
    subst (λ (t : List ℕ). LogText t (imported_log made.k sectors made.entries)) (sym made.same)
    (canonical_is_text (imported_log made.k sectors made.entries) made.importable.log made.importable.recorded) in
    let log : imported_log made.k sectors made.entries ≡ imported_log k sectors es =
    ap (λ (n : ℕ). imported_log n sectors made.entries) (sym same.0) ∙ ap (λ (fs : List Entry). imported_log k sectors fs) (sym same.1) in
    subst (λ (l : LogValue). LogText text l) log there

pub log_is_kept : LogIsKept
log_is_kept bytes text log limits is made =
    let kept : LogText text (over [] log) =
    subst (λ (l : LogValue). LogText text l) (same_log log)
    (imported_is_text 1 log.sectors limits bytes text log.entries (log_is_raw bytes log limits is).0 made) in
    record {
      size = kept.size;
      super = kept.super;
      stands = kept.stands;
      bounds = is.bounds;
      recorded = kept.recorded;
    }

pub one_import : OneImport
one_import bytes text other sectors limits a b =
    let same = raw_of_one_log bytes a.k b.k a.entries b.entries a.raw b.raw in
    let log : imported_log a.k sectors a.entries ≡ imported_log b.k sectors b.entries =
    ap (λ (n : ℕ). imported_log n sectors a.entries) same.0 ∙ ap (λ (es : List Entry). imported_log b.k sectors es) same.1 in
    a.same ∙ ap (λ (l : LogValue). canonical_text l.entries) log ∙ sym b.same
