-- What a world holds after an event, by what it did at the master, or with one station.
use Rattle.std.proofs.Common.{◌≡◌, ◌∙◌, ℕ, ◌+◌, List, ◌++◌, map, Option, Some, None, Result, Ok, Err, OnOk, sym, ap}
use Rattle.std.specs.Prelude.{slice_get}
use Rattle.script_statement.specs.declared.who.Who.TheVariants.{M, S}
use Rattle.script_parts.specs.declared.script.Event.{Event}
use Rattle.replay_report.specs.declared.record.Line.{Line}
use Rattle.replay_report.specs.Report.{sent_lines}
use Rattle.half_line.specs.Behind.{Behind}
use Rattle.half_line.specs.Acts.{LineStationState, HalfState, LinkState}
use Rattle.half_line.specs.Steps.{AtMaster, AtStation, UnitStep, link_of, rejoined, after_steps, lines_over, bytes_over, after_master_deeds, master_lines_over, master_bytes_over, after_link_deeds, link_lines_over, link_bytes_over}
use Rattle.half_line.specs.Run.{place_of, station_at, master_deeds, link_deeds, steps_with, steps_at, giver, after_event, lines_of}
use Rattle.half_line.specs.Plays.{Played, played, weight}
use Rattle.half_line.proofs.Steps.WholeLine.{master-steps, master-lines, master-bytes, station-steps, station-lines, station-bytes}

-- ---- at the master

master-state : {H : Type 0} (h : Behind H) (s : HalfState H) (e : Event) → station_at e ≡ None → after_event h s e ≡ after_master_deeds h s (master_deeds e)
master-state h s e none = ap (λ (at : Option ℕ). after_steps h s (steps_at s.stations at e)) none ∙ master-steps h (master_deeds e) s

master-told : {H : Type 0} (h : Behind H) (s : HalfState H) (e : Event) → station_at e ≡ None → lines_of h s e ≡ master_lines_over h s.master (master_deeds e) ++ sent_lines M (master_bytes_over h s.master (master_deeds e))
master-told h s e none =
    ap (λ (at : Option ℕ). lines_over h s (steps_at s.stations at e) ++ sent_lines (giver at) (bytes_over h s (steps_at s.stations at e))) none
    ∙ ap (λ (lines : List Line). lines ++ sent_lines M (bytes_over h s (map AtMaster (master_deeds e)))) (master-lines h (master_deeds e) s)
    ∙ ap (λ (bytes : List ℕ). master_lines_over h s.master (master_deeds e) ++ sent_lines M bytes) (master-bytes h (master_deeds e) s)

pub played-master : {H : Type 0} (h : Behind H) (p : Played H) (e : Event) (s : HalfState H) (lines : List Line) (events : ℕ) → station_at e ≡ None → s ≡ after_master_deeds h p.state (master_deeds e)
    → lines ≡ p.lines ++ (master_lines_over h p.state.master (master_deeds e) ++ sent_lines M (master_bytes_over h p.state.master (master_deeds e))) → events ≡ p.events + weight p e
    → record { state = s; lines = lines; events = events } ≡ played h p e
played-master {H} h p e s lines events none is told counted =
    let now : HalfState H → List Line → ℕ → Played H = λ t ls n. record { state = t; lines = ls; events = n } in
    ap (λ (t : HalfState H). now t lines events) (is ∙ sym (master-state h p.state e none))
    ∙ ap (λ (ls : List Line). now (after_event h p.state e) ls events) (told ∙ ap (λ (ls : List Line). p.lines ++ ls) (sym (master-told h p.state e none)))
    ∙ ap (now (after_event h p.state e) (p.lines ++ lines_of h p.state e)) counted

-- ---- with a station

steps-of : {H : Type 0} (s : HalfState H) (e : Event) (number place : ℕ) → station_at e ≡ Some number → place_of s.stations number ≡ Some place → steps_at s.stations (station_at e) e ≡ map (AtStation place) (link_deeds e)
steps-of s e number place at is = ap (λ (o : Option ℕ). steps_at s.stations o e) at ∙ ap (λ (o : Option ℕ). steps_with o (link_deeds e)) is

station-state : {H : Type 0} (h : Behind H) (s : HalfState H) (e : Event) (number place : ℕ) (side : LineStationState) → station_at e ≡ Some number → place_of s.stations number ≡ Some place → slice_get s.stations place ≡ Some side
    → after_event h s e ≡ rejoined s place (after_link_deeds h (link_of s side) (link_deeds e))
station-state h s e number place side at is there = ap (after_steps h s) (steps-of s e number place at is) ∙ station-steps h place (link_deeds e) s side there

station-told : {H : Type 0} (h : Behind H) (s : HalfState H) (e : Event) (number place : ℕ) (side : LineStationState) → station_at e ≡ Some number → place_of s.stations number ≡ Some place → slice_get s.stations place ≡ Some side
    → lines_of h s e ≡ link_lines_over h (link_of s side) (link_deeds e) ++ sent_lines (S number) (link_bytes_over h (link_of s side) (link_deeds e))
station-told h s e number place side at is there =
    ap (λ (steps : List UnitStep). lines_over h s steps ++ sent_lines (giver (station_at e)) (bytes_over h s steps)) (steps-of s e number place at is)
    ∙ ap (λ (o : Option ℕ). lines_over h s (map (AtStation place) (link_deeds e)) ++ sent_lines (giver o) (bytes_over h s (map (AtStation place) (link_deeds e)))) at
    ∙ ap (λ (lines : List Line). lines ++ sent_lines (S number) (bytes_over h s (map (AtStation place) (link_deeds e)))) (station-lines h place (link_deeds e) s side there)
    ∙ ap (λ (bytes : List ℕ). link_lines_over h (link_of s side) (link_deeds e) ++ sent_lines (S number) bytes) (station-bytes h place (link_deeds e) s side there)

pub played-station : {H : Type 0} (h : Behind H) (p : Played H) (e : Event) (number place : ℕ) (side : LineStationState) (link : LinkState H) (lines : List Line) (events : ℕ) → station_at e ≡ Some number → place_of p.state.stations number ≡ Some place
    → slice_get p.state.stations place ≡ Some side → link ≡ after_link_deeds h (link_of p.state side) (link_deeds e)
    → lines ≡ p.lines ++ (link_lines_over h (link_of p.state side) (link_deeds e) ++ sent_lines (S number) (link_bytes_over h (link_of p.state side) (link_deeds e))) → events ≡ p.events + weight p e
    → record { state = rejoined p.state place link; lines = lines; events = events } ≡ played h p e
played-station {H} h p e number place side link lines events at is there after told counted =
    let now : HalfState H → List Line → ℕ → Played H = λ t ls n. record { state = t; lines = ls; events = n } in
    ap (λ (t : HalfState H). now t lines events) (ap (rejoined p.state place) after ∙ sym (station-state h p.state e number place side at is there))
    ∙ ap (λ (ls : List Line). now (after_event h p.state e) ls events) (told ∙ ap (λ (ls : List Line). p.lines ++ ls) (sym (station-told h p.state e number place side at is there)))
    ∙ ap (now (after_event h p.state e) (p.lines ++ lines_of h p.state e)) counted

-- ---- where the event succeeds

pub master-ok : {H : Type 0} (h : Behind H) {T E : Type 0} (r : Result T E) (p self : Played H) (e : Event) (s : HalfState H) (lines : List Line) (events : ℕ) → p ≡ self → station_at e ≡ None → OnOk r (s ≡ after_master_deeds h p.state (master_deeds e))
    → OnOk r (lines ≡ p.lines ++ (master_lines_over h p.state.master (master_deeds e) ++ sent_lines M (master_bytes_over h p.state.master (master_deeds e)))) → events ≡ p.events + weight p e
    → OnOk r (record { state = s; lines = lines; events = events } ≡ played h self e)
master-ok {H} h (Ok t) p self e s lines events same none is told counted = played-master h p e s lines events none is told counted ∙ ap (λ (q : Played H). played h q e) same
master-ok h (Err f) p self e s lines events same none is told counted = tt

pub station-ok : {H : Type 0} (h : Behind H) {T E : Type 0} (r : Result T E) (p self : Played H) (e : Event) (number place : ℕ) (side : LineStationState) (link : LinkState H) (lines : List Line) (events : ℕ) → p ≡ self → station_at e ≡ Some number → place_of p.state.stations number ≡ Some place
    → slice_get p.state.stations place ≡ Some side → OnOk r (link ≡ after_link_deeds h (link_of p.state side) (link_deeds e))
    → OnOk r (lines ≡ p.lines ++ (link_lines_over h (link_of p.state side) (link_deeds e) ++ sent_lines (S number) (link_bytes_over h (link_of p.state side) (link_deeds e)))) → events ≡ p.events + weight p e
    → OnOk r (record { state = rejoined p.state place link; lines = lines; events = events } ≡ played h self e)
station-ok {H} h (Ok t) p self e number place side link lines events same at is there after told counted =
    played-station h p e number place side link lines events at is there after told counted ∙ ap (λ (q : Played H). played h q e) same
station-ok h (Err f) p self e number place side link lines events same at is there after told counted = tt
