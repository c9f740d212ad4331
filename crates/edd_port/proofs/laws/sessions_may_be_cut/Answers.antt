use Rattle.edd_port.proofs.Cuts.{cut, later, met}
use Rattle.edd_port.proofs.laws.sessions_may_be_cut.Goals as goal

pub returns : goal.returns
returns c = record {
  cut = λ d j k s good. cut d j k s good;
  answered_later = λ d j k s answers. later d j k s answers;
  met = λ d k s r answer rest asks valid. met d k s r answer rest asks valid;
}
