-- `put_sheet` has room for a sheet, so that it is written whole. Assumes nothing.
use native.Mathlib.Omega.{arith}
use Rattle.sheets.specs.Paper.{text_of}
use Rattle.sheets.proofs.Puts.{sheet-fits}
use Rattle.sales.proofs.Tasks.{wrote, not-refused}
use Rattle.sales.proofs.put_sheet.Goals as goal

pub returns-in-Ok : goal.returns-in-Ok
returns-in-Ok c =
    let w = c.write in
    let t = c.args.sheet.now in
    wrote (text_of t) c.args.out.now (omega (arith, c.requires, sheet-fits t w.ensures.holds)) w.result w.new.out _ w.ensures.reply_is w.ensures.out_after c.in-Ok.is

pub returns-in-Err : goal.returns-in-Err
returns-in-Err c =
    let w = c.write in
    let t = c.args.sheet.now in
    absurd (not-refused (text_of t) c.args.out.now (omega (arith, c.requires, sheet-fits t w.ensures.holds)) w.result _ w.ensures.reply_is c.in-Err.is)
