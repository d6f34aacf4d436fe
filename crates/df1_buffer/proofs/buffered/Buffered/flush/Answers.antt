use Rattle.std.proofs.Common.{◌≡◌, ◌∙◌, ◌<◌, ap, arith, ◌∷◌, length, List, ℕ, subst, sym}
use Rattle.std.proofs.lemmas.Bool.Decides.{nat_tests}
use Rattle.std.proofs.lemmas.Grind.{common_steps}
use Rattle.std.specs.Io.KnownBytes.{Keeps, append_known}
use Rattle.df1_base.proofs.Laws.{later_then}
use Rattle.df1_buffer.specs.declared.buffered.Buffered.{Buffered}
use Rattle.df1_buffer.specs.Buffered.{buffer_held, buffer_waiting}
use Rattle.df1_buffer.proofs.Handed.{put_told, kept_moved}
use Rattle.df1_buffer.proofs.buffered.Buffered.flush.Goals as goal

pub loop-self-preserved : goal.loop-self-preserved
loop-self-preserved g c =
    let held = g.K.Sink.held in
    let wrote = c.in_ok-count.ensures in
    let before = c.loop-self.invariant in
    let P : List ℕ → Type 0 = λ waiting. Keeps (buffer_held held c.args.self.now) (append_known (held c.write.new.self) waiting) in
    record {
      idle = λ none.
          let some : 0 < length (buffer_waiting c.loop-self.self) = grind (arith, nat_tests, common_steps) in
          let gone : length (buffer_waiting c.loop-self.self) ≡ 0 = ap (λ (b : Buffered g.row.K.Denot). length (buffer_waiting b)) (before.idle none) ∙ ap length none in
          absurd (omega (arith, some, gone));
      kept = subst P (sym c.drop_front.ensures) (kept_moved _ _ _ _ c.in_ok-count.count before.kept (rw c.deref.ensures.0 at wrote.put));
      calm = wrote.calm ∙ before.calm;
      later = later_then _ _ _ _ _ _ before.later (ap (λ n. c.loop-self.self.out.ghost_name ∷ n) wrote.later.0, put_told _ _ _ wrote.put, wrote.later.2);
    }
