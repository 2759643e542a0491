use Rattle.std.proofs.Common.{ℕ, ◌≡◌, slice_get, slice_index_or, Some, inl, inr, ap, sym}
use Rattle.std.proofs.lemmas.Option.{slice_get-get_or, slice_get_read}
use Rattle.losses.specs.declared.flushes.window.Window.{Window}
use Rattle.losses.proofs.Starts.{one_more}
use Rattle.losses.proofs.flushes.places.starts_of.Goals.{then-index-window, else-index-window}
use Rattle.losses.proofs.flushes.places.starts_of.Goals as goal

pub loop-window-preserved : goal.loop-window-preserved
loop-window-preserved c =
    let k : ℕ = c.loop-window.window-index in
    let w0 : Window = record { start = 0; end = 0 } in
    let window : Window = slice_index_or c.args.windows.now k w0 in
    let there : slice_get c.args.windows.now k ≡ Some window = slice_get-get_or c.args.windows.now k w0 c.loop-window-test.true in
    let inside = (c.requires k window there).2 in
    let long = c.loop-window.invariant.long in
    let here = slice_get_read c.loop-window.starts.items c.args.entries window.end c.index.result.now (sym long) inside c.index.ensures in
    one_more c.args.entries k c.index.result.now c.args.windows.now c.loop-window.starts.items c.if-index-window.starts.items window
    c.loop-window.invariant there here
    (elim c.if-index-window.branch [
      | then-index-window w ↦ inl (w.if-index-window.true, ap (λ v. v.items) w.starts-is)
      | else-index-window w ↦ inr (w.if-index-window.false, ap (λ v. v.items) w.starts-is)
    ])
