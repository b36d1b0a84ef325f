use Rattle.std.proofs.Common.{refl}
use Rattle.tcp_laws.specs.SocketRun.{Set, SetPathMtu, SetCongestionControl, SetTimeout, SetAckDelay, SetNagle, SetKeepAlive, SetHopLimit, PauseSynAck, SetTsvalGenerator, SetRules, SetMinRto}
use Rattle.tcp_laws.proofs.streams.settings_are_calls.Goals as goal

pub returns-clause-congestion_control : goal.returns-clause-congestion_control
returns-clause-congestion_control c v k x = Set (SetCongestionControl x refl) refl

pub returns-clause-timeout : goal.returns-clause-timeout
returns-clause-timeout c v k x = Set (SetTimeout x refl) refl

pub returns-clause-ack_delay : goal.returns-clause-ack_delay
returns-clause-ack_delay c v k x = Set (SetAckDelay x refl) refl

pub returns-clause-nagle : goal.returns-clause-nagle
returns-clause-nagle c v k x = Set (SetNagle x refl) refl

pub returns-clause-keep_alive : goal.returns-clause-keep_alive
returns-clause-keep_alive c v k x = Set (SetKeepAlive x refl) refl

pub returns-clause-hop_limit : goal.returns-clause-hop_limit
returns-clause-hop_limit c v k x = Set (SetHopLimit x refl) refl

pub returns-clause-pause : goal.returns-clause-pause
returns-clause-pause c v k x = Set (PauseSynAck x refl) refl

pub returns-clause-generator : goal.returns-clause-generator
returns-clause-generator c v k x = Set (SetTsvalGenerator x refl) refl

pub returns-clause-rules : goal.returns-clause-rules
returns-clause-rules c v k x d = Set (SetRules x d refl) refl

pub returns-clause-min_rto : goal.returns-clause-min_rto
returns-clause-min_rto c v k x = Set (SetMinRto x refl) refl

pub returns-clause-path_mtu : goal.returns-clause-path_mtu
returns-clause-path_mtu c v k now mtu = SetPathMtu now mtu refl refl
