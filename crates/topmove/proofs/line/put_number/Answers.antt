-- The word, and the digits behind it.
use Rattle.topmove.proofs.Texts.{number_behind}
use Rattle.topmove.proofs.line.put_number.Goals as goal

pub returns : goal.returns
returns c =
    let put = number_behind c.args.out.now c.args.at c.args.word.now c.args.v c.requires.0 c.requires.1 c.digit_count-digits.ensures.count c.digit_count-digits.ensures.most c.copy.ensures c.write_digits.ensures in
    record { out_after = put.0; value = put.1 }
