-- How long the parts of a canonical text are.
use Rattle.std.proofs.Common.{ℕ, ◌≡◌, ◌+◌, ◌*◌, ◌≤◌, length, refl, arith, length-append}
use Rattle.base.proofs.Lists.{length-number_bytes, length-zeros}
use Rattle.logfmt.specs.declared.entry.Entry.{Entry}
use Rattle.logfmt.specs.Bounds.{IsEntry, data_of}
use Rattle.logfmt.specs.LogText.{super_sector, header_sector, entry_sectors}

pub length_super : (n : ℕ) → length (super_sector n) ≡ 512
unfolding super_sector
length_super n = simp (length-append, length-number_bytes, length-zeros) refl

length_header : (e : Entry) → length e.text ≤ 480 → length (header_sector e) ≡ 512
unfolding header_sector
length_header e short = simp (length-append, length-number_bytes, length-zeros) (omega (arith, short))

pub length_entry : (sectors : ℕ) (e : Entry) → IsEntry sectors e → length e.text ≤ 480 → length (entry_sectors e) ≡ 512 * (1 + data_of e)
length_entry sectors e is short =
    let both = length-append (header_sector e) e.content in
    let head = length_header e short in
    let content = is.content in
    omega (arith, both, head, content)
