-- The runs of rehearsed transfers.
use Rattle.std.proofs.Common.{◌≡◌, ◌∙◌, ℕ, zero, suc, ◌+◌, ◌*◌, ◌/◌, ◌%◌, ◌≤◌, Bool, true, false, cond, not, List, [], ◌∷◌, ◌++◌, length, map, drop, Option, Some, None, refl, sym, ap, subst, inl, inr, arith, length-append, length-take}
use Rattle.std.specs.Prelude.{All, IsTrue, sum_by, nat_le, nat_lt, if◌then◌else◌}
use Rattle.std.specs.Option.{option_map_or}
use Rattle.std.specs.List.{range_with_len}
use Rattle.std.proofs.lemmas.Bool.{false≢true, le-leb, leb-true}
use Rattle.std.proofs.lemmas.List.Elements.{All-append, All-cons, All-nil}
use Rattle.std.proofs.lemmas.List.FromFn.{length-map-range_with_len}
use Rattle.std.proofs.lemmas.List.Sums.{sum_by-append, sum_by-cons}
use Rattle.logical_address.specs.Shortest.{shortest_value}
use Rattle.data_files.specs.declared.file_spec.FileSpec.{FileSpec}
use Rattle.data_files.specs.Place.{holds_of, is_status}
use Rattle.data_files.specs.Tables.{DataTables, file_of, has_words, word_count}
use Rattle.script_statement.specs.Statements.{is_payload}
use Rattle.script_statement.specs.declared.who.Who.TheVariants.{A, B}
use Rattle.script_parts.specs.declared.script.Event.{Event}
use Rattle.script_parts.specs.declared.script.Event.TheVariants.{Issue}
use Rattle.script_parts.specs.declared.script.Script.{Script}
use Rattle.script_parts.specs.HalfPlayable.{CanBePlayed}
use Rattle.script_parts.specs.Playable.{IsPlayable, IsPossible, count_of, issues}
use Rattle.replay_report.specs.declared.record.Record.{Record}
use Rattle.report_lines.specs.Words.{words_of}
use Rattle.each_once.specs.Commands.{AreOutcomesTold}
use Rattle.each_once.specs.Once.{IsAnswered}
use Rattle.each_once.specs.Exchanges.{exchanges}
use Rattle.each_once.specs.Tells.{executed_in}
use Rattle.outset.specs.Outset.{first_station, first_tables}
use Rattle.outset.proofs.FirstTables.{first_files}
use Rattle.duplex_line.specs.Complete.{IsComplete}
use Rattle.duplex_line.specs.Issues.{commands_of_a}
use Rattle.duplex_line.specs.Once.{EachOnce, tables_made}
use Rattle.duplex_line.specs.Run.{last_state, lines_after, plan_of_a, plan_of_b, start}
use Rattle.duplex_line.specs.Run as duplex
use Rattle.duplex_line.proofs.Once.ToldCommands.{recounts-run}
use Rattle.line_world.specs.Complete.{IsCompleteIn}
use Rattle.line_world.specs.Once.{EachOnceIn}
use Rattle.line_world.specs.Recovery.{RecoversIn}
use Rattle.line_world.specs.Runs.{record_of}
use Rattle.line_world.proofs.EitherMode.{all-complete, all-recover, duplex-record, each-command-once}
use Rattle.bulk_orders.specs.declared.outcome.Bulk.{Bulk}
use Rattle.bulk_orders.specs.declared.outcome.Bulk.TheVariants.{Whole}
use Rattle.bulk_orders.specs.Orders.{data_of_order, first_word, orders_of, place_bytes, pull_payload, push_payload, words_of_order}
use Rattle.bulk_orders.specs.Outcomes.{pull_result, push_result, words_pulled}
use Rattle.bulk_transfer.specs.Moved.{HasFile, IsPulled, IsPushed, IsSound, IsWritable}
use Rattle.bulk_transfer.specs.Rehearsal.{IsRehearsable, all_orders, initiator_after, issued_at, pull_script, push_script, with_orders}
use Rattle.bulk_transfer.proofs.MovedAnswers.{HasFileOf}
use Rattle.bulk_transfer.proofs.MovedBodies.{commands-are, length-bodies, order_bodies}
use Rattle.bulk_transfer.proofs.MovedPull.{pull-file, pull-never-odd, pull-whole, pull-words}
use Rattle.bulk_transfer.proofs.MovedPush.{push-file, push-never-odd, push-whole, push-words}
use Rattle.bulk_transfer.proofs.MovedReplies.{AreTold}
use Rattle.bulk_transfer.proofs.Playing.{can-play, pull-payload, pull-playable, push-payload, push-playable, with-orders-playable}

-- ---- what a run tells

pub lines-of-run : (script : Script) → IsPlayable script → (record_of script).lines ≡ lines_after (start script) script.events
unfolding duplex.record_of
lines-of-run script playable = ap (λ (r : Record). r.lines) (duplex-record script playable.mode)

once-of-run : (script : Script) → IsPlayable script → (record_of script).deceived ≡ 0 → EachOnce script (record_of script)
once-of-run script playable none = subst (λ (half : Bool). EachOnceIn half script (record_of script)) playable.mode (each-command-once script (can-play script playable) none)

told-of-run : (script : Script) → IsPlayable script → (record_of script).deceived ≡ 0 → AreTold (initiator_after script) (commands_of_a script) (first_station (plan_of_b script)) (record_of script).lines
told-of-run script playable none = record {
  once = (once-of-run script playable none).to_b;
  outcomes = subst (AreOutcomesTold A (initiator_after script).issued) (sym (lines-of-run script playable)) (recounts-run script playable).recounts.outcomes;
}

pub complete-run : (script : Script) → IsPlayable script → IsSound script → IsComplete script (record_of script)
complete-run script playable (inl undisturbed) = subst (λ (half : Bool). IsCompleteIn half script (record_of script)) playable.mode (all-complete script (can-play script playable) undisturbed)
complete-run script playable (inr recoverable) = subst (λ (half : Bool). RecoversIn half script (record_of script)) playable.mode (all-recover script (can-play script playable)) recoverable

-- ---- a script with the orders of a transfer

-- the commands of end a
abbrev ordered : Script → (ℕ → List ℕ) → ℕ → List (List ℕ)
ordered script order words = order_bodies order (plan_of_a script).node (plan_of_b script).node (plan_of_a script).tns 1 (orders_of words)

-- orders that may be issued in front of a script
record MayOrder (script : Script) (order : ℕ → List ℕ) (words : ℕ) : Type 0 where
  rehearsable : IsRehearsable script
  few : words ≤ 3000
  payloads : (j : ℕ) → is_payload (order j) ≡ true

playable : (script : Script) (order : ℕ → List ℕ) (words : ℕ) → MayOrder script order words → IsPlayable (with_orders script (all_orders order words))
playable script order words may = with-orders-playable script order words may.rehearsable may.few may.payloads

told-of-orders : (script : Script) (order : ℕ → List ℕ) (words : ℕ) → MayOrder script order words → (record_of (with_orders script (all_orders order words))).deceived ≡ 0
    → AreTold (initiator_after (with_orders script (all_orders order words))) (ordered script order words) (first_station (plan_of_b script)) (record_of (with_orders script (all_orders order words))).lines
told-of-orders script order words may none =
    let all = with_orders script (all_orders order words) in
    subst (λ (bodies : List (List ℕ)). AreTold (initiator_after all) bodies (first_station (plan_of_b script)) (record_of all).lines) (commands-are script order words may.rehearsable.unissued)
    (told-of-run all (playable script order words may) none)

answered-orders : (script : Script) (order : ℕ → List ℕ) (words : ℕ) → MayOrder script order words → IsComplete (with_orders script (all_orders order words)) (record_of (with_orders script (all_orders order words))) → (n : ℕ) → 1 ≤ n → n ≤ orders_of words
    → IsAnswered A (ordered script order words) (exchanges (first_station (plan_of_b script)) (executed_in B (record_of (with_orders script (all_orders order words))).lines)) (record_of (with_orders script (all_orders order words))).lines n
answered-orders script order words may complete n some within =
    let all = with_orders script (all_orders order words) in
    let lines = (record_of all).lines in
    let are = commands-are script order words may.rehearsable.unissued in
    let count : length (commands_of_a all) ≡ orders_of words = ap length are ∙ length-bodies order (plan_of_a script).node (plan_of_b script).node (plan_of_a script).tns 1 (orders_of words) in
    subst (λ (bodies : List (List ℕ)). IsAnswered A bodies (exchanges (first_station (plan_of_b script)) (executed_in B lines)) lines n) are
    (complete.of_a.answered n some (omega (arith, count, within)))

-- ---- the file

file-found : (files : List FileSpec) (file words : ℕ) → IsTrue (has_words files file 0 words) → HasFileOf files file words
file-found files file words has = by (file_of files file) refl has
  where
    by : (o : Option FileSpec) → file_of files file ≡ o → option_map_or (λ (f : FileSpec). nat_le (0 + words) (word_count f)) o false ≡ true → HasFileOf files file words
    by None is has = absurd cc
    by (Some f) is has = let few = leb-true (0 + words) (word_count f) has in (f, is, omega (arith, few))

not-not : (b : Bool) → not b ≡ true → b ≡ false
not-not true is = absurd cc
not-not false is = refl

may-write : (files : List FileSpec) (file : ℕ) (f : FileSpec) → file_of files file ≡ Some f → IsTrue (holds_of (λ g. not (is_status g.kind)) (file_of files file)) → is_status f.kind ≡ false
may-write files file f is may = not-not (is_status f.kind) (sym (ap (λ (o : Option FileSpec). holds_of (λ (g : FileSpec). not (is_status g.kind)) o) is) ∙ may)

-- what holds of the files of end b's first tables holds of those that the script gave it
as-script : (script : Script) (test : List FileSpec → Bool) → test (first_tables (plan_of_b script)).specs ≡ true → IsTrue (test (plan_of_b script).files)
as-script script test is = sym (ap test (first_files (plan_of_b script))) ∙ is

file-of-b : (script : Script) (file words : ℕ) → (has : HasFileOf (plan_of_b script).files file words) → file_of (first_tables (plan_of_b script)).specs file ≡ Some has.0
file-of-b script file words has = ap (λ (specs : List FileSpec). file_of specs file) (first_files (plan_of_b script)) ∙ has.1

-- ---- a transfer that reads

pulls : (script : Script) (file words : ℕ) → IsRehearsable script → words ≤ 3000 → MayOrder script (pull_payload file words) words
pulls script file words may few = record { rehearsable = may; few = few; payloads = pull-payload file words }

pub pulled : (script : Script) (file words : ℕ) → IsRehearsable script → 1 ≤ words → words ≤ 3000 → (record_of (pull_script script file words)).deceived ≡ 0
    → IsPulled script file words (pull_result (initiator_after (pull_script script file words)) words) (words_pulled (initiator_after (pull_script script file words)) words)
pulled script file words may some few none =
    let all = pull_script script file words in
    let a = plan_of_a script in
    let b = plan_of_b script in
    let are = told-of-orders script (pull_payload file words) words (pulls script file words may few) none in
    record {
      fits = pull-never-odd file words a.node b.node a.tns (initiator_after all) (first_station b) (record_of all).lines are;
      whole = λ is. record {
        file_is = as-script script (λ specs. has_words specs file 0 words) (pull-file file words a.node b.node a.tns (initiator_after all) (first_station b) (record_of all).lines are some is);
        words_are = pull-words file words a.node b.node a.tns (initiator_after all) (first_station b) (record_of all).lines are is;
      };
    }

pub pulled-whole : (script : Script) (file words : ℕ) → IsRehearsable script → words ≤ 3000 → IsSound (pull_script script file words) → HasFile script file words → pull_result (initiator_after (pull_script script file words)) words ≡ Whole
pulled-whole script file words may few sound has =
    let all = pull_script script file words in
    let a = plan_of_a script in
    let b = plan_of_b script in
    let order = pulls script file words may few in
    let complete = complete-run all (playable script (pull_payload file words) words order) sound in
    let found = file-found b.files file words has in
    pull-whole file words a.node b.node a.tns (initiator_after all) (first_station b) (record_of all).lines (told-of-orders script (pull_payload file words) words order complete.honest)
    (answered-orders script (pull_payload file words) words order complete) (found.0, file-of-b script file words found, found.2)

-- ---- a transfer that writes

pushes : (script : Script) (file : ℕ) (bytes : List ℕ) → IsRehearsable script → length bytes ≤ 6000 → MayOrder script (push_payload file bytes) (length bytes / 2)
pushes script file bytes may few = record { rehearsable = may; few = omega (arith, few); payloads = push-payload file bytes }

pub pushed : (script : Script) (file : ℕ) (bytes : List ℕ) → IsRehearsable script → length bytes ≡ 2 * (length bytes / 2) → 2 ≤ length bytes → length bytes ≤ 6000 → (record_of (push_script script file bytes)).deceived ≡ 0
    → IsPushed script file bytes (push_result (initiator_after (push_script script file bytes)) (length bytes / 2)) (record_of (push_script script file bytes))
pushed script file bytes may whole some few none =
    let all = push_script script file bytes in
    let a = plan_of_a script in
    let b = plan_of_b script in
    let order = pushes script file bytes may few in
    let are = told-of-orders script (push_payload file bytes) (length bytes / 2) order none in
    record {
      fits = push-never-odd file bytes whole a.node b.node a.tns (initiator_after all) (first_station b) (record_of all).lines are;
      whole = λ is.
          let part = push-file file bytes whole a.node b.node a.tns (initiator_after all) (first_station b) (record_of all).lines are some is in
          record {
            file_is = as-script script (λ specs. has_words specs file 0 (length bytes / 2)) part.0;
            writable = as-script script (λ specs. holds_of (λ f. not (is_status f.kind)) (file_of specs file)) part.1;
            words_are = (once-of-run all (playable script (push_payload file bytes) (length bytes / 2) order) none).words
                ∙ ap (λ (tables : DataTables). words_of A (tables_made A a (record_of all)) ++ words_of B tables) (push-words file bytes whole a.node b.node a.tns (initiator_after all) (first_station b) (record_of all).lines are is);
          };
    }

pub pushed-whole : (script : Script) (file : ℕ) (bytes : List ℕ) → IsRehearsable script → length bytes ≡ 2 * (length bytes / 2) → length bytes ≤ 6000 → IsSound (push_script script file bytes) → HasFile script file (length bytes / 2) → IsWritable script file
    → push_result (initiator_after (push_script script file bytes)) (length bytes / 2) ≡ Whole
pushed-whole script file bytes may whole few sound has writable =
    let all = push_script script file bytes in
    let a = plan_of_a script in
    let b = plan_of_b script in
    let order = pushes script file bytes may few in
    let complete = complete-run all (playable script (push_payload file bytes) (length bytes / 2) order) sound in
    let found = file-found b.files file (length bytes / 2) has in
    push-whole file bytes whole a.node b.node a.tns (initiator_after all) (first_station b) (record_of all).lines (told-of-orders script (push_payload file bytes) (length bytes / 2) order complete.honest)
    refl (answered-orders script (push_payload file bytes) (length bytes / 2) order complete) (found.0, file-of-b script file (length bytes / 2) found, found.2) (may-write b.files file found.0 found.1 writable)

-- ---- of a rehearsal's report, what it came to and its words

pub pulled-is : (script : Script) (file words : ℕ) (bulk : Bulk) (read : List ℕ) (r : Record) → IsRehearsable script → 1 ≤ words → words ≤ 3000
    → r ≡ record_of (pull_script script file words) → bulk ≡ pull_result (initiator_after (pull_script script file words)) words
    → read ≡ words_pulled (initiator_after (pull_script script file words)) words → r.deceived ≡ 0 → IsPulled script file words bulk read
pulled-is script file words bulk read r may some few r-is bulk-is read-is none =
    subst (λ (b : Bulk). IsPulled script file words b read) (sym bulk-is)
    (subst (λ (l : List ℕ). IsPulled script file words (pull_result (initiator_after (pull_script script file words)) words) l) (sym read-is)
    (pulled script file words may some few (subst (λ (x : Record). x.deceived ≡ 0) r-is none)))

pub pushed-is : (script : Script) (file : ℕ) (bytes : List ℕ) (bulk : Bulk) (r : Record) → IsRehearsable script → length bytes ≡ 2 * (length bytes / 2) → 2 ≤ length bytes → length bytes ≤ 6000
    → r ≡ record_of (push_script script file bytes) → bulk ≡ push_result (initiator_after (push_script script file bytes)) (length bytes / 2) → r.deceived ≡ 0 → IsPushed script file bytes bulk r
pushed-is script file bytes bulk r may whole some few r-is bulk-is none =
    subst (λ (b : Bulk). IsPushed script file bytes b r) (sym bulk-is)
    (subst (λ (x : Record). IsPushed script file bytes (push_result (initiator_after (push_script script file bytes)) (length bytes / 2)) x) (sym r-is)
    (pushed script file bytes may whole some few (subst (λ (x : Record). x.deceived ≡ 0) r-is none)))
