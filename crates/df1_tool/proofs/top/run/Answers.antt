-- The words ask for at most 20,000 rounds, and for a transfer that may be issued.
use Rattle.std.proofs.Common.{◌≡◌, ◌∙◌, ◌≤◌, ◌<◌, ℕ, List, [], Option, Some, length, map, sym, ap, subst, arith}
use Rattle.std.specs.Prelude.{IsSome, option_and_then, option_map, slice_index_or, string_bytes}
use Rattle.std.proofs.lemmas.List.{length-map}
use Rattle.df1_service.specs.Service.{CanBeIssued, Commands, PullOrders, PushOrders, Serving, seen, serving_of}
use Rattle.df1_tool.specs.declared.form.Form.{Form}
use Rattle.df1_tool.specs.declared.form.Form.TheVariants.{Drill, Storm, Pull, Push, RehearsePull, RehearsePush}
use Rattle.df1_tool.specs.Forms.{data_of, form_of, plan_name, pushing, service_for, service_of}
use Rattle.df1_tool.specs.Captures.{Streams}
use Rattle.df1_tool.specs.Scripts.{ScriptRun}
use Rattle.df1_tool.specs.Served.{Outside, ServiceRun}
use Rattle.line_script.specs.declared.profile.Profile.TheVariants.{Rehearse}
use Rattle.whole_scripts.specs.Rehearsals.{HasPulled, HasPushed, pulled_text, pushed_text}
use Rattle.df1_tool.proofs.Asked.{few-drill, few-storm, is-spelled, nth-word, pulls-within, pushes-within, rehearses-pull-within, rehearses-push-within, spells}
use Rattle.df1_tool.proofs.top.run.Goals as goal

pub drill-status-requires : goal.drill-status-requires
drill-status-requires g c =
    let words = map string_bytes c.args.words.now in
    let value = c.form_of.ensures.value in
    let some = c.in-Some.is in
    let drill = c.in-Drill.is in
    let asked : form_of words ≡ Some (Drill c.in-Drill.rounds) = cc in
    few-drill words c.in-Drill.rounds asked

pub storm-status-requires : goal.storm-status-requires
storm-status-requires g c =
    let words = map string_bytes c.args.words.now in
    let value = c.form_of.ensures.value in
    let some = c.in-Some.is in
    let storm = c.in-Storm.is in
    let asked : form_of words ≡ Some (Storm c.in-Storm.rounds) = cc in
    few-storm words c.in-Storm.rounds asked

-- ---- `pull`

pub run-requires-in-Pull : goal.run-requires-in-Pull
run-requires-in-Pull g c =
    let words = map string_bytes c.args.words.now in
    let value = c.form_of.ensures.value in
    let some = c.in-Some.is in
    let pull = c.in-Pull.is in
    let asked : form_of words ≡ Some (Pull c.in-Pull.file c.in-Pull.count) = cc in
    let issues : seen c.timed-service-in-Pull.result.issues ≡ PullOrders c.in-Pull.file c.in-Pull.count = ap (λ (s : Serving). s.issues) c.timed-service-in-Pull.ensures in
    subst (λ (commands : Commands). CanBeIssued commands) (sym issues) (pulls-within words c.in-Pull.file c.in-Pull.count asked)

-- ---- `push`

-- four words, the last of which spells words of a file
abbrev Pushes : List (List ℕ) → ℕ → Type 0
Pushes words file = (file ≤ 999) × IsSome (data_of (slice_index_or words 3 [])) × (4 ≤ length words)

push-asked : (words : List (List ℕ)) (answer : Option Form) (form : Form) (file : ℕ) → answer ≡ form_of words → answer ≡ Some form → form ≡ Push file → form_of words ≡ Some (Push file)
push-asked words answer form file value some push = cc

-- how it is served
push-served : (words : List (List ℕ)) (file : ℕ) (bytes : List ℕ) → form_of words ≡ Some (Push file) → data_of (slice_index_or words 3 []) ≡ Some bytes → service_for words ≡ Some (pushing file bytes)
push-served words file bytes asked known = ap (option_and_then (service_of words)) asked ∙ ap (option_map (pushing file)) known

within-words : {X : Type 0} (bytes : X → List ℕ) (words : List X) (file n : ℕ) → Pushes (map bytes words) file → n ≤ 3 → n < length words
within-words bytes words file n pushes few = let many : 4 ≤ length (map bytes words) = pushes.2 in omega (arith, many, few, length-map words bytes)

same-service : (name : List ℕ) (words : List (List ℕ)) (of served service : Serving) (before after : Outside) (status : ℕ) → served ≡ of → service_for words ≡ Some of → plan_name words ≡ name → ServiceRun served name before after status → service_for words ≡ Some service → ServiceRun service (plan_name words) before after status
same-service name words of served service before after status is for_words plan run asked =
    let same : Some of ≡ Some service = sym for_words ∙ asked in
    let one : of ≡ service = cc in
    subst (λ (n : List ℕ). ServiceRun service n before after status) (sym plan) (subst (λ (s : Serving). ServiceRun s name before after status) (is ∙ one) run)

pub bounds-words-3 : goal.bounds-words-3
bounds-words-3 g c =
    let words = map string_bytes c.args.words.now in
    let asked = push-asked words c.form_of.result c.in-Some.form c.in-Push.file c.form_of.ensures.value c.in-Some.is c.in-Push.is in
    within-words string_bytes c.args.words.now c.in-Push.file 3 (pushes-within words c.in-Push.file asked) (omega arith)

pub unwrap-bytes-requires : goal.unwrap-bytes-requires
unwrap-bytes-requires g c =
    let words = map string_bytes c.args.words.now in
    let asked = push-asked words c.form_of.result c.in-Some.form c.in-Push.file c.form_of.ensures.value c.in-Some.is c.in-Push.is in
    let pushes = pushes-within words c.in-Push.file asked in
    let fourth = nth-word string_bytes c.args.words.now 3 c.index-words-3.result (within-words string_bytes c.args.words.now c.in-Push.file 3 pushes (omega arith)) c.index-words-3.is ∙ sym c.deref-in-Push.ensures in
    is-spelled (λ bytes. bytes.items) (data_of c.deref-in-Push.result.now) c.data_of.result (subst (λ (word : List ℕ). IsSome (data_of word)) fourth pushes.1) c.data_of.ensures.value

pub bounds-words-1-in-Push : goal.bounds-words-1-in-Push
bounds-words-1-in-Push g c =
    let words = map string_bytes c.args.words.now in
    let asked = push-asked words c.form_of.result c.in-Some.form c.in-Push.file c.form_of.ensures.value c.in-Some.is c.in-Push.is in
    within-words string_bytes c.args.words.now c.in-Push.file 1 (pushes-within words c.in-Push.file asked) (omega arith)

pub run-requires-in-Push : goal.run-requires-in-Push
run-requires-in-Push g c =
    let words = map string_bytes c.args.words.now in
    let asked = push-asked words c.form_of.result c.in-Some.form c.in-Push.file c.form_of.ensures.value c.in-Some.is c.in-Push.is in
    let file : c.in-Push.file ≤ 999 = (pushes-within words c.in-Push.file asked).0 in
    let bytes = c.unwrap-bytes.result.items in
    let issues : seen c.timed-service-in-Push.result.issues ≡ PushOrders c.in-Push.file bytes = ap (λ (s : Serving). s.issues) (c.timed-service-in-Push.ensures ∙ ap (pushing c.in-Push.file) c.deref-in-Push-2.ensures.0) in
    let is = c.unwrap-bytes.ensures in
    let some = rw is at c.data_of.ensures.some in
    let few = rw is at c.data_of.ensures.few in
    let whole = rw is at c.data_of.ensures.whole in
    subst (λ (commands : Commands). CanBeIssued commands) (sym issues) (file, some, few, whole)

pub returns-in-Push-clause-serves : goal.returns-in-Push-clause-serves
returns-in-Push-clause-serves g c = λ service.
    let words = map string_bytes c.args.words.now in
    let asked = push-asked words c.form_of.result c.in-Some.form c.in-Push.file c.form_of.ensures.value c.in-Some.is c.in-Push.is in
    let pushes = pushes-within words c.in-Push.file asked in
    let fourth = nth-word string_bytes c.args.words.now 3 c.index-words-3.result (within-words string_bytes c.args.words.now c.in-Push.file 3 pushes (omega arith)) c.index-words-3.is ∙ sym c.deref-in-Push.ensures in
    let bytes = c.unwrap-bytes.result.items in
    let known = ap data_of fourth ∙ spells (λ x. x.items) (data_of c.deref-in-Push.result.now) c.data_of.result c.unwrap-bytes.result c.unwrap-bytes.ensures c.data_of.ensures.value in
    let plan = nth-word string_bytes c.args.words.now 1 c.index-words-1-in-Push.result (within-words string_bytes c.args.words.now c.in-Push.file 1 pushes (omega arith)) c.index-words-1-in-Push.is ∙ sym c.deref-in-Push-3.ensures in
    same-service c.deref-in-Push-3.result.now words (pushing c.in-Push.file bytes) (serving_of c.timed-service-in-Push.result) service _ _ c.run-in-Push.result.status
    (c.timed-service-in-Push.ensures ∙ ap (pushing c.in-Push.file) c.deref-in-Push-2.ensures.0) (push-served words c.in-Push.file bytes asked known) plan c.run-in-Push.ensures.serves

pub returns-in-Push-clause-same_shelf : goal.returns-in-Push-clause-same_shelf
returns-in-Push-clause-same_shelf g c = λ none.
    let words = map string_bytes c.args.words.now in
    let asked = push-asked words c.form_of.result c.in-Some.form c.in-Push.file c.form_of.ensures.value c.in-Some.is c.in-Push.is in
    let pushes = pushes-within words c.in-Push.file asked in
    let fourth = nth-word string_bytes c.args.words.now 3 c.index-words-3.result (within-words string_bytes c.args.words.now c.in-Push.file 3 pushes (omega arith)) c.index-words-3.is ∙ sym c.deref-in-Push.ensures in
    let bytes = c.unwrap-bytes.result.items in
    let known = ap data_of fourth ∙ spells (λ x. x.items) (data_of c.deref-in-Push.result.now) c.data_of.result c.unwrap-bytes.result c.unwrap-bytes.ensures c.data_of.ensures.value in
    let served : service_for words ≡ Some (pushing c.in-Push.file bytes) = push-served words c.in-Push.file bytes asked known in
    absurd cc

-- ---- `rehearse pull`

pull-asked : (words : List (List ℕ)) (answer : Option Form) (form : Form) (file count : ℕ) → answer ≡ form_of words → answer ≡ Some form → form ≡ RehearsePull file count → form_of words ≡ Some (RehearsePull file count)
pull-asked words answer form file count value some pull = cc

same-pull : (words : List (List ℕ)) (file count file' count' : ℕ) (before after : Streams) (status : ℕ) → form_of words ≡ Some (RehearsePull file count) → ScriptRun Rehearse (pulled_text file count) (HasPulled file count) before after status
    → form_of words ≡ Some (RehearsePull file' count') → ScriptRun Rehearse (pulled_text file' count') (HasPulled file' count') before after status
same-pull words file count file' count' before after status own run asked =
    let same : Some (RehearsePull file count) ≡ Some (RehearsePull file' count') = sym own ∙ asked in
    let one : file ≡ file' = cc in
    let other : count ≡ count' = cc in
    subst (λ (n : ℕ). ScriptRun Rehearse (pulled_text file' n) (HasPulled file' n) before after status) other
    (subst (λ (n : ℕ). ScriptRun Rehearse (pulled_text n count) (HasPulled n count) before after status) one run)

pub pull-status-requires-clause-file : goal.pull-status-requires-clause-file
pull-status-requires-clause-file g c =
    let words = map string_bytes c.args.words.now in
    let asked = pull-asked words c.form_of.result c.in-Some.form c.in-RehearsePull.file c.in-RehearsePull.count c.form_of.ensures.value c.in-Some.is c.in-RehearsePull.is in
    (rehearses-pull-within words c.in-RehearsePull.file c.in-RehearsePull.count asked).0

pub pull-status-requires-clause-words : goal.pull-status-requires-clause-words
pull-status-requires-clause-words g c =
    let words = map string_bytes c.args.words.now in
    let asked = pull-asked words c.form_of.result c.in-Some.form c.in-RehearsePull.file c.in-RehearsePull.count c.form_of.ensures.value c.in-Some.is c.in-RehearsePull.is in
    let within = rehearses-pull-within words c.in-RehearsePull.file c.in-RehearsePull.count asked in
    (within.1, within.2)

pub returns-in-RehearsePull-clause-rehearses_pull : goal.returns-in-RehearsePull-clause-rehearses_pull
returns-in-RehearsePull-clause-rehearses_pull g c = λ file count asked.
    let words = map string_bytes c.args.words.now in
    let own = pull-asked words c.form_of.result c.in-Some.form c.in-RehearsePull.file c.in-RehearsePull.count c.form_of.ensures.value c.in-Some.is c.in-RehearsePull.is in
    rw c.new-in-RehearsePull.ensures (same-pull words c.in-RehearsePull.file c.in-RehearsePull.count file count _ _ c.pull-status.result own c.pull-status.ensures.run asked)

-- ---- `rehearse push`

rehearsed-asked : (words : List (List ℕ)) (answer : Option Form) (form : Form) (file : ℕ) → answer ≡ form_of words → answer ≡ Some form → form ≡ RehearsePush file → form_of words ≡ Some (RehearsePush file)
rehearsed-asked words answer form file value some push = cc

same-push : (words : List (List ℕ)) (file file' : ℕ) (bytes bytes' : List ℕ) (before after : Streams) (status : ℕ) → form_of words ≡ Some (RehearsePush file) → data_of (slice_index_or words 3 []) ≡ Some bytes
    → ScriptRun Rehearse (pushed_text file bytes) (HasPushed file bytes) before after status → form_of words ≡ Some (RehearsePush file') → data_of (slice_index_or words 3 []) ≡ Some bytes'
    → ScriptRun Rehearse (pushed_text file' bytes') (HasPushed file' bytes') before after status
same-push words file file' bytes bytes' before after status own spelled run asked known =
    let same : Some (RehearsePush file) ≡ Some (RehearsePush file') = sym own ∙ asked in
    let one : file ≡ file' = cc in
    let both : Some bytes ≡ Some bytes' = sym spelled ∙ known in
    let other : bytes ≡ bytes' = cc in
    subst (λ (b : List ℕ). ScriptRun Rehearse (pushed_text file' b) (HasPushed file' b) before after status) other
    (subst (λ (n : ℕ). ScriptRun Rehearse (pushed_text n bytes) (HasPushed n bytes) before after status) one run)

pub bounds-words-3-in-RehearsePush : goal.bounds-words-3-in-RehearsePush
bounds-words-3-in-RehearsePush g c =
    let words = map string_bytes c.args.words.now in
    let asked = rehearsed-asked words c.form_of.result c.in-Some.form c.in-RehearsePush.file c.form_of.ensures.value c.in-Some.is c.in-RehearsePush.is in
    within-words string_bytes c.args.words.now c.in-RehearsePush.file 3 (rehearses-push-within words c.in-RehearsePush.file asked) (omega arith)

pub unwrap-bytes-requires-in-RehearsePush : goal.unwrap-bytes-requires-in-RehearsePush
unwrap-bytes-requires-in-RehearsePush g c =
    let words = map string_bytes c.args.words.now in
    let asked = rehearsed-asked words c.form_of.result c.in-Some.form c.in-RehearsePush.file c.form_of.ensures.value c.in-Some.is c.in-RehearsePush.is in
    let pushes = rehearses-push-within words c.in-RehearsePush.file asked in
    let fourth = nth-word string_bytes c.args.words.now 3 c.index-words-3-in-RehearsePush.result (within-words string_bytes c.args.words.now c.in-RehearsePush.file 3 pushes (omega arith)) c.index-words-3-in-RehearsePush.is ∙ sym c.deref-in-RehearsePush.ensures in
    is-spelled (λ bytes. bytes.items) (data_of c.deref-in-RehearsePush.result.now) c.data_of-in-RehearsePush.result (subst (λ (word : List ℕ). IsSome (data_of word)) fourth pushes.1) c.data_of-in-RehearsePush.ensures.value

pub push-status-requires-clause-file : goal.push-status-requires-clause-file
push-status-requires-clause-file g c =
    let words = map string_bytes c.args.words.now in
    let asked = rehearsed-asked words c.form_of.result c.in-Some.form c.in-RehearsePush.file c.form_of.ensures.value c.in-Some.is c.in-RehearsePush.is in
    (rehearses-push-within words c.in-RehearsePush.file asked).0

pub returns-in-RehearsePush-clause-rehearses_push : goal.returns-in-RehearsePush-clause-rehearses_push
returns-in-RehearsePush-clause-rehearses_push g c = λ file bytes asked known.
    let words = map string_bytes c.args.words.now in
    let own = rehearsed-asked words c.form_of.result c.in-Some.form c.in-RehearsePush.file c.form_of.ensures.value c.in-Some.is c.in-RehearsePush.is in
    let pushes = rehearses-push-within words c.in-RehearsePush.file own in
    let fourth = nth-word string_bytes c.args.words.now 3 c.index-words-3-in-RehearsePush.result (within-words string_bytes c.args.words.now c.in-RehearsePush.file 3 pushes (omega arith)) c.index-words-3-in-RehearsePush.is ∙ sym c.deref-in-RehearsePush.ensures in
    let spelled = ap data_of fourth ∙ spells (λ x. x.items) (data_of c.deref-in-RehearsePush.result.now) c.data_of-in-RehearsePush.result c.unwrap-bytes-in-RehearsePush.result c.unwrap-bytes-in-RehearsePush.ensures c.data_of-in-RehearsePush.ensures.value in
    rw c.new-in-RehearsePush.ensures (same-push words c.in-RehearsePush.file file c.deref-in-RehearsePush-2.result.now bytes _ _ c.push-status.result own (spelled ∙ ap Some (sym c.deref-in-RehearsePush-2.ensures.0)) c.push-status.ensures.run asked known)
