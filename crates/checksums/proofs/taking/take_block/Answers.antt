use Rattle.std.proofs.Common.{ℕ, ◌≡◌, bit_xor, ◌∙◌, ap}
use Rattle.checksums.specs.Checksum.{coefficients, after_bits}
use Rattle.checksums.proofs.Blocks.{block_taken}
use Rattle.checksums.proofs.taking.take_block.Goals as goal

four : {a b c d e f g h : ℕ} → a ≡ b → c ≡ d → e ≡ f → g ≡ h → bit_xor (bit_xor (bit_xor a c) e) g ≡ bit_xor (bit_xor (bit_xor b d) f) h
four i j k l = λ t. bit_xor (bit_xor (bit_xor (i t) (j t)) (k t)) (l t)

pub returns : goal.returns
returns c =
    let p = coefficients c.args.polynomial in
    four (c.take_word.ensures ∙ ap (λ x. after_bits p 128 (bit_xor c.args.register x)) c.u32_at.ensures)
    (c.take_word-2.ensures ∙ ap (after_bits p 96) c.u32_at-2.ensures)
    (c.take_word-3.ensures ∙ ap (after_bits p 64) c.u32_at-3.ensures)
    (c.take_word-4.ensures ∙ ap (after_bits p 32) c.u32_at-4.ensures)
    ∙ block_taken p c.args.register c.args.at c.args.bytes.now c.requires.inside (λ i. (c.type_inv.bytes i).fits)
