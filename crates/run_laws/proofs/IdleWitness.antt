-- The run of a line at both of whose ends enough drained ticks come.
use Rattle.std.proofs.Common.{◌≡◌, ◌∙◌, ℕ, ◌+◌, ◌*◌, ◌≤◌, true, length, refl, arith, ap, sym, subst}
use Rattle.std.proofs.lemmas.List.Elements.{All-nil}
use Rattle.df1_check.specs.Checks.{with_byte}
use Rattle.df1_frame.specs.Spelling.{check_bytes}
use Rattle.duplex_line.specs.Prompt.{is_quiet}
use Rattle.duplex_line.specs.Rest.{is_between}
use Rattle.duplex_line.specs.Run as duplex
use Rattle.duplex_line.specs.Run.{last_state}
use Rattle.duplex_line.proofs.Complete.Witness.{all-possible}
use Rattle.each_once.specs.Tells.{executed_in}
use Rattle.line_world.proofs.EitherMode.{duplex-record}
use Rattle.replay_report.specs.declared.record.Record.{Record}
use Rattle.script_parts.specs.Playable.{IsPlayable}
use Rattle.script_parts.proofs.PlanSettings.{Fits-first_plan}
use Rattle.script_statement.specs.declared.who.Who.TheVariants.{A, B}
use Rattle.run_laws.specs.Idle.{left_alone_ticks, IsLeftAloneAtA, IsLeftAloneAtB}
use Rattle.run_laws.specs.SharpBounds.{lost_both_ways, ComesToRest}

lost_both_ways-playable : IsPlayable lost_both_ways
lost_both_ways-playable = record {
  mode = refl;
  ends = (
    record { end = refl; files = refl; words = All-nil _; settings = Fits-first_plan A 0 (omega arith); compat = refl; block = omega arith },
    record { end = refl; files = refl; words = All-nil _; settings = Fits-first_plan B 1 (omega arith); compat = refl; block = omega arith },
  );
  events = all-possible lost_both_ways.events ((refl, refl), ((refl, (omega arith, omega arith)), ((refl, refl), ((refl, (omega arith, omega arith)), ((refl, (omega arith, omega arith)), ((refl, (omega arith, omega arith)), ((refl, (omega arith, omega arith)), ((refl, (omega arith, omega arith)), ((refl, (omega arith, omega arith)), ((refl, (omega arith, omega arith)), ((refl, (omega arith, omega arith)), ((refl, (omega arith, omega arith)), ((refl, (omega arith, omega arith)), ((refl, (omega arith, omega arith)), ((refl, (omega arith, omega arith)), ((refl, (omega arith, omega arith)), ((refl, (omega arith, omega arith)), ((refl, (omega arith, omega arith)), ((refl, (omega arith, omega arith)), ((refl, (omega arith, omega arith)), ((refl, (omega arith, omega arith)), ((refl, (omega arith, omega arith)), ((refl, (omega arith, omega arith)), ((refl, (omega arith, omega arith)), ((refl, (omega arith, omega arith)), ((refl, (omega arith, omega arith)), ((refl, (omega arith, omega arith)), ((refl, (omega arith, omega arith)), ((refl, (omega arith, omega arith)), ((refl, (omega arith, omega arith)), tt))))))))))))))))))))))))))))));
  commands_of_a = omega arith;
  commands_of_b = omega arith;
  sum = omega arith;
}

ticks-at-a : left_alone_ticks A lost_both_ways ≡ 167
unfolding check_bytes with_byte
ticks-at-a = refl

ticks-at-b : left_alone_ticks B lost_both_ways ≡ 100
unfolding check_bytes with_byte
ticks-at-b = refl

executed-by-a : length (executed_in A (duplex.lines_after (duplex.start lost_both_ways) lost_both_ways.events)) ≡ 1
unfolding check_bytes with_byte
executed-by-a = refl

executed-by-b : length (executed_in B (duplex.lines_after (duplex.start lost_both_ways) lost_both_ways.events)) ≡ 0
unfolding check_bytes with_byte
executed-by-b = refl

quiet-at-last : is_quiet (last_state lost_both_ways) ≡ true
unfolding check_bytes with_byte
quiet-at-last = refl

between-at-a : is_between (last_state lost_both_ways).a.end.receiver.decoding.standing ≡ true
unfolding check_bytes with_byte
between-at-a = refl

between-at-b : is_between (last_state lost_both_ways).b.end.receiver.decoding.standing ≡ true
unfolding check_bytes with_byte
between-at-b = refl

-- so many ticks are enough at the end
enough-at : (executed commands most count : ℕ) → executed ≡ commands → 100 + commands * 67 ≡ most → count ≡ most → 100 + executed * 67 ≤ count
enough-at executed commands most count is sum same = let times = ap (λ (n : ℕ). n * 67) is in omega (arith, times, sum, same)

pub lost_both_ways-rests : ComesToRest lost_both_ways
unfolding duplex.record_of
lost_both_ways-rests =
    let is = duplex-record lost_both_ways refl in
    let at_a : IsLeftAloneAtA lost_both_ways (duplex.record_of lost_both_ways) = enough-at _ 1 167 _ executed-by-a refl ticks-at-a in
    let at_b : IsLeftAloneAtB lost_both_ways (duplex.record_of lost_both_ways) = enough-at _ 0 100 _ executed-by-b refl ticks-at-b in
    record {
      playable = record { full = λ mode. lost_both_ways-playable; half = λ mode. absurd cc };
      executes = ap (λ (r : Record). length (executed_in A r.lines)) is ∙ executed-by-a;
      alone = record {
        mode = refl;
        at_a = subst (λ (r : Record). IsLeftAloneAtA lost_both_ways r) (sym is) at_a;
        at_b = subst (λ (r : Record). IsLeftAloneAtB lost_both_ways r) (sym is) at_b;
        quiet = quiet-at-last;
        between_a = between-at-a;
        between_b = between-at-b;
      };
    }
