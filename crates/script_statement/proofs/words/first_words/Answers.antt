use Rattle.std.proofs.Common.{◌<◌, length, arith, take}
use Rattle.std.proofs.lemmas.Grind.{common_steps}
use Rattle.script_statement.specs.Words.{words}
use Rattle.script_statement.proofs.FirstWords.{word_more}
use Rattle.script_statement.proofs.words.first_words.Goals as goal

pub loop-rest-preserved : goal.loop-rest-preserved
loop-rest-preserved c =
    let few : length c.loop-rest.words.items < 6 = grind (arith, common_steps) in
    rw c.push.ensures.items (word_more c.loop-rest.words.items c.in-Some.word c.loop-rest.rest.now c.in-Some.more.now (take 6 (words c.args.line.now)) c.in-Some.ensures.0 few c.loop-rest.invariant)
