-- Texts of which each line stands for a number.
use Rattle.std.proofs.Common.{ℕ, ◌≡◌, ◌+◌, ◌<◌, List, [], ◌∷◌, ◌++◌, length, get_or, slice_get, Some, refl, sym, ◌∙◌, ap, arith}
use Rattle.std.specs.List.{flat_map, range_with_len}
use Rattle.std.proofs.lemmas.List.{append-nil}
use Rattle.std.proofs.lemmas.Grind.{flat_map-append}
use Rattle.std.proofs.lemmas.Option.{slice_get_read}
use Rattle.logfmt.specs.declared.entry.Entry.{Entry}
use Rattle.epochs.specs.Units.{epoch_at}
use Rattle.crash_text.specs.LogTable.{entry_line, line_at, noted_line, entry_note}
use Rattle.base.proofs.Lists.{range_with_len-more}

pub one_more_line : (line : ℕ → List ℕ) (n : ℕ) → flat_map line (range_with_len 0 (n + 1)) ≡ flat_map line (range_with_len 0 n) ++ line n
one_more_line line n =
    let z : 0 + n ≡ n = omega arith in
    rw (range_with_len-more 0 n, z, flat_map-append line (range_with_len 0 n) (n ∷ []), append-nil (line n)) refl

-- the table with one more entry
pub one_more_entry : (es items : List Entry) (n epoch : ℕ) (e : Entry) (before now : List ℕ) → items ≡ es → n < length items → e ≡ get_or items n e
    → epoch ≡ epoch_at es n → before ≡ flat_map (line_at es) (range_with_len 0 n) → now ≡ before ++ entry_line n epoch e
    → now ≡ flat_map (line_at es) (range_with_len 0 (n + 1))
one_more_entry es items n epoch e before now same lt here at so_far is =
    let there : slice_get es n ≡ Some e = ap (λ (xs : List Entry). slice_get xs n) (sym same) ∙ slice_get_read items (length items) n e refl lt here in
    let line : entry_line n epoch e ≡ line_at es n = rw (at, there) refl in
    is ∙ ap (λ (text : List ℕ). text ++ entry_line n epoch e) so_far ∙ ap (λ (text : List ℕ). flat_map (line_at es) (range_with_len 0 n) ++ text) line
    ∙ sym (one_more_line (line_at es) n)

-- the note of an entry that is there
pub entry_noted : (es : List Entry) (n epoch : ℕ) (e : Entry) → slice_get es n ≡ Some e → epoch ≡ epoch_at es n → noted_line n epoch e ≡ entry_note es n
entry_noted es n epoch e there at = rw (at, there) refl
