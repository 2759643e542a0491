use Rattle.std.proofs.Common.{ℕ, ◌+◌, ◌*◌, List, subst, sym}
use Rattle.std.specs.Simd.Lanes.{digits_l, number_l}
use Rattle.lanes.specs.Rows.{HasLanes}
use Rattle.lanes.specs.Sector.{word}
use Rattle.lanes.proofs.Mixes.{limit, words_of_row}
use Rattle.lanes.proofs.mixing.words.Goals as goal

pub returns : goal.returns
returns c =
    let sector = c.args.sector.now in
    let row = c.args.row in
    subst (λ (lanes : List ℕ). HasLanes (digits_l limit 8 (number_l 256 lanes)) (λ lane. word sector (8 * row + lane))) (sym c.load_row.ensures)
    (words_of_row sector row c.requires c.type_inv.sector)
