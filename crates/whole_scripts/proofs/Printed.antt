-- What a buffer took of a text, as the sink behind it holds it.
use Rattle.std.proofs.Common.{◌≡◌, ◌∙◌, ◌≤◌, ℕ, List, [], ◌++◌, Option, None, Some, refl, ap, append_assoc}
use Rattle.std.specs.Prelude.{◌≢◌}
use Rattle.std.specs.Io.KnownBytes.{Keeps, append_known}
use Rattle.df1_base.specs.Outside.{Put, WroteLess}
use Rattle.df1_buffer.specs.Buffered.{told_length}
use Rattle.df1_buffer.proofs.Handed.{less_through, part_through}
use Rattle.bulk_orders.specs.Telling.{pull_line, push_line}
use Rattle.replay_report.specs.Report.{report}
use Rattle.replay_report.proofs.Writing.{no_back, no_front, some_report}
use Rattle.whole_scripts.specs.declared.printing.Telling.{Telling}
use Rattle.whole_scripts.specs.declared.printing.Telling.TheVariants.{Report, Pulled, Pushed}
use Rattle.whole_scripts.specs.Texts.{text_of}

pub keeps-itself : (held : Option (List ℕ)) → Keeps held held
keeps-itself None = tt
keeps-itself (Some bytes) = refl

-- a buffer in which nothing waited didn't take all of a text
pub less-inside : (held held' told : Option (List ℕ)) (waited waits text : List ℕ) → waited ≡ [] → told_length held ≤ told_length held' → WroteLess (append_known held waited) told text → Keeps told (append_known held' waits)
    → WroteLess held held' text
less-inside held held' told waited waits text none grown (rest, some, w) kept =
    let (left, v) = part_through held held' told waited waits w.part none grown w.put kept in (
      left ++ rest,
      λ nothing. some (no_back left rest nothing),
      record { part = v.part; text_is = w.text_is ∙ ap (λ t. t ++ rest) v.text_is ∙ append_assoc v.part left rest; put = v.put },
    )

-- it took all, and something waits still
pub less-waiting : (held held' told : Option (List ℕ)) (waited waits text : List ℕ) → waited ≡ [] → waits ≢ [] → text ≢ [] → told_length held ≤ told_length held' → Put (append_known held waited) told text
    → Keeps told (append_known held' waits) → WroteLess held held' text
less-waiting None held' told waited waits text none some said grown put kept = (text, said, record { part = []; text_is = refl; put = tt })
less-waiting (Some bytes) held' told waited waits text none some said grown put kept = less_through bytes held' told waited waits text none some grown put kept

-- what is told has a text: the report has its last line
pub some-text : (told : Telling) → text_of told ≢ []
some-text (Report record_of) none = some_report record_of.now none
some-text (Pulled rehearsal) none = some_report rehearsal.now.report (no_front (report rehearsal.now.report) (pull_line rehearsal.now.bulk rehearsal.now.words) none)
some-text (Pushed rehearsal orders) none = some_report rehearsal.now.report (no_front (report rehearsal.now.report) (push_line rehearsal.now.bulk orders) none)
