use Rattle.std.proofs.Common.{◌≡◌, ◌∙◌, Some, slice_get, length, refl, sym}
use Rattle.std.proofs.lemmas.Option.{slice_get_read}
use Rattle.workers.proofs.Tables.{put_more, put_new}
use Rattle.workers.proofs.collecting.PieceTable.put.Goals as goal

pub returns-then-is_some : goal.returns-then-is_some
returns-then-is_some c = λ pieces blocks h.
    let there : slice_get c.args.self.now.rows.items c.block-block.result ≡ Some c.index.result.now =
    slice_get_read c.args.self.now.rows.items (length c.args.self.now.rows.items) c.block-block.result c.index.result.now refl (rw c.block-block.ensures c.requires) c.index.ensures in
    rw (c.first_of.ensures, c.block-block.ensures, c.lower-self.ensures, c.least_image.ensures)
    (put_more pieces c.args.piece blocks _ _ _ c.index.result.now h (rw (← c.block-block.ensures) there) (sym c.is_some.ensures ∙ c.if-is_some.true))

pub returns-else-is_some : goal.returns-else-is_some
returns-else-is_some c = λ pieces blocks h.
    let there : slice_get c.args.self.now.rows.items c.block-block.result ≡ Some c.index.result.now =
    slice_get_read c.args.self.now.rows.items (length c.args.self.now.rows.items) c.block-block.result c.index.result.now refl (rw c.block-block.ensures c.requires) c.index.ensures in
    rw (c.block-block.ensures, c.lower-self.ensures, c.least_image.ensures)
    (put_new pieces c.args.piece blocks _ _ _ c.index.result.now h (rw (← c.block-block.ensures) there) (sym c.is_some.ensures ∙ c.if-is_some.false))
