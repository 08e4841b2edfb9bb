use Rattle.std.proofs.Common.{◌≡◌, true, [], subst}
use Rattle.map_text.specs.Faults.{plain}
use Rattle.call_files.specs.Files.{IsAccepted, IsRefused}
use Rattle.call_files.specs.Kinds.{kind_for, takes}
use Rattle.call_files.specs.Reading.{IsMade, IsRead, read_stops}
use Rattle.line_work.specs.Stops.{StopsSo}
use Rattle.call_files.specs.declared.kind.Extent.{Extent}
use Rattle.line_work.proofs.Stopping.{passed, follow-same}
use Rattle.call_files.proofs.files.read_map_file.Goals as goal

pub of_map-requires : goal.of_map-requires
of_map-requires g c =
    subst (λ (e : Extent). takes e (plain c.in_ok-map.map) ≡ true) c.extent-extent.ensures
    (c.in_ok-map.ensures.read [] tt).spelled.1

pub returns-in_err-map-clause-read : goal.returns-in_err-map-clause-read
returns-in_err-map-clause-read g c = λ earlier behind.
    let extent = g.M.OfMap.extent_of c.args.settings in
    let name = c.args.name.now in
    let held = (g.F.Files.disk c.args.files.now).holds name in
    let old = (g.F.Files.disk c.args.files.now).faults name in
    let now = (g.F.Files.disk c.read_file.new.files).faults name in
    let stop = c.in_err-map.field-0.0 in
    passed (IsRead (IsMade (g.M.OfMap.is_of_map c.args.settings)) earlier (kind_for extent) held)
    (read_stops (IsRefused earlier (kind_for extent) held) old now)
    (read_stops (IsRefused earlier (kind_for extent) held) old now) c.from_residual.result stop
    c.from_residual.ensures.1
    (subst (λ (e : Extent). StopsSo (read_stops (IsRefused earlier (kind_for e) held) old now) stop)
    c.extent-extent.ensures (c.in_err-map.ensures.read earlier behind)) (follow-same _)

pub returns-clause-read : goal.returns-clause-read
returns-clause-read g c = λ earlier behind.
    let held = (g.F.Files.disk c.args.files.now).holds c.args.name.now in
    let r = c.in_ok-map.ensures.read earlier behind in record {
      text = r.text;
      accepted = subst (λ (e : Extent). IsAccepted earlier (kind_for e) held r.text) c.extent-extent.ensures
          r.accepted;
      spelled = record { map = plain c.in_ok-map.map; spelled = r.spelled.0; is = c.in_ok-made.ensures };
    }
