use Rattle.mark_core.proofs.Licences.{scan_closed}
use Rattle.mark_core.proofs.laws.scan_closes.Goals as goal

pub returns : goal.returns
returns c = λ z c m e u may h is k v own cell. scan_closed z c m e u may.0 may.1 h is k v own cell
