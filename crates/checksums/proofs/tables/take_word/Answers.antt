use Rattle.std.proofs.Common.{ℕ, ◌≡◌, ◌≤◌, ◌+◌, ◌/◌, ◌%◌, bit_xor, length, get_or, ◌∙◌, ap, arith}
use Rattle.checksums.specs.Checksum.{coefficients}
use Rattle.checksums.proofs.Entries.{entry, word_taken}
use Rattle.checksums.proofs.tables.take_word.Goals as goal

four : {a b c d e f g h : ℕ} → a ≡ b → c ≡ d → e ≡ f → g ≡ h → bit_xor (bit_xor (bit_xor a c) e) g ≡ bit_xor (bit_xor (bit_xor b d) f) h
four i j k l = λ t. bit_xor (bit_xor (bit_xor (i t) (j t)) (k t)) (l t)

pub returns : goal.returns
returns c =
    let p = coefficients c.args.polynomial in
    let w = c.args.register in
    let rows : length c.args.rows.now ≡ 16 = c.told-rows in
    let few : c.args.more ≤ 12 = c.requires.few in
    let fits = c.ranges.register.fits in
    let first : c.from.result ≡ w % 256 = c.from.ensures ∙ ap (λ bytes. get_or bytes 0 0) c.to_le_bytes.ensures in
    let second : c.from-2.result ≡ w / 256 % 256 = c.from-2.ensures ∙ ap (λ bytes. get_or bytes 1 0) c.to_le_bytes.ensures in
    let third : c.from-3.result ≡ w / 65536 % 256 = c.from-3.ensures ∙ ap (λ bytes. get_or bytes 2 0) c.to_le_bytes.ensures in
    let fourth : c.from-4.result ≡ w / 16777216 % 256 = c.from-4.ensures ∙ ap (λ bytes. get_or bytes 3 0) c.to_le_bytes.ensures in
    four (entry p c.args.rows.now (c.args.more + 3) c.from.result c.requires.table (omega arith) (omega arith))
    (entry p c.args.rows.now (c.args.more + 2) c.from-2.result c.requires.table (omega arith) (omega arith))
    (entry p c.args.rows.now (c.args.more + 1) c.from-3.result c.requires.table (omega arith) (omega arith))
    (entry p c.args.rows.now c.args.more c.from-4.result c.requires.table (omega arith) (omega arith))
    ∙ word_taken p c.args.more w c.from.result c.from-2.result c.from-3.result c.from-4.result (omega arith) (omega arith) (omega arith) (omega arith)
