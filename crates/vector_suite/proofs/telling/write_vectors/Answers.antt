-- The line tells the place of the first of the forty that differs.
use Rattle.std.proofs.Common.{◌∙◌, List, ℕ, ap, subst}
use Rattle.df1_base.specs.Outside.{Put, WroteLess}
use Rattle.vector_suite.proofs.Cases.{told-place}
use Rattle.vector_suite.specs.Telling.{line_of}
use Rattle.vector_suite.proofs.telling.write_vectors.Goals as goal

pub returns-in-Ok-write_all : goal.returns-in-Ok-write_all
returns-in-Ok-write_all g c =
    let is = told-place c.forty_cases.result c.in-Ok.place c.forty_cases.ensures.shown c.in-Ok.ensures in
    let P : List ℕ → Type 0 = λ line. Put (g.K.Sink.held c.args.out.now) (g.K.Sink.held c.write_all.new.sink) line in
    (is, subst P (c.deref.ensures.0 ∙ c.line.ensures ∙ ap line_of is) c.in-Ok-write_all.ensures.ok, c.in-Ok-write_all.ensures.calm)

pub returns-in-Err-write_all : goal.returns-in-Err-write_all
returns-in-Err-write_all g c =
    let is = told-place c.forty_cases.result c.in-Ok.place c.forty_cases.ensures.shown c.in-Ok.ensures in
    let P : List ℕ → Type 0 = λ line. WroteLess (g.K.Sink.held c.args.out.now) (g.K.Sink.held c.write_all.new.sink) line in
    (subst P (c.deref.ensures.0 ∙ c.line.ensures ∙ ap line_of is) c.in-Err-write_all.ensures.missing, c.in-Err-write_all.ensures.cause)
