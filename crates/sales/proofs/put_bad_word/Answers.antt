-- `put_bad_word` has room for its text. Assumes nothing.
use Rattle.sales.proofs.Asking.{word_told}
use Rattle.sales.proofs.put_bad_word.Goals as goal

pub returns : goal.returns
returns c =
    word_told c.args.out.now c.requires c.put_text.ensures
