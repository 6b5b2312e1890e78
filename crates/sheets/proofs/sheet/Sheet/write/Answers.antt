-- `write` puts the lines into an area of its own first, and copies them where they have room. Assumes nothing.
use mathlib.Core.Path.{sym}
use lib.Seq.{length-take-le}
use Rattle.sheets.specs.Paper.{text_of}
use Rattle.sheets.proofs.Puts.{sheet-fits, text-inside, no_room, has_room}
use Rattle.sheets.proofs.sheet.Sheet.write.Goals as goal

pub returns-then-out-size : goal.returns-then-out-size
returns-then-out-size c =
    let l = c.put_lines-size in
    let both = no_room _ _ (text_of c.args.self.now) l.result (sheet-fits c.args.self.now l.ensures.holds) l.ensures.put c.args.out.now
    c.if-out-size.true in record { reply_is = both.0; out_after = both.1; holds = l.ensures.holds }

pub slice_bounds-lines-end : goal.slice_bounds-lines-end
slice_bounds-lines-end c =
    let l = c.put_lines-size in
    text-inside _ _ (text_of c.args.self.now) l.result (sheet-fits c.args.self.now l.ensures.holds) l.ensures.put

pub slice_bounds-put_text-end : goal.slice_bounds-put_text-end
slice_bounds-put_text-end c =
    let l = c.put_lines-size in
    sym (length-take-le l.result _ (text-inside _ _ (text_of c.args.self.now) l.result (sheet-fits c.args.self.now l.ensures.holds) l.ensures.put))

pub returns : goal.returns
returns c =
    let l = c.put_lines-size in
    let both = has_room _ _ (text_of c.args.self.now) l.result (sheet-fits c.args.self.now l.ensures.holds) l.ensures.put c.args.out.now _ _
    c.if-out-size.false c.put_text.ensures in record { reply_is = both.0; out_after = both.1; holds = l.ensures.holds }
