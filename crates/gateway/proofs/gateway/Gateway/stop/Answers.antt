use Rattle.gateway.proofs.gateway.Gateway.stop.Goals as goal

pub stop-requires : goal.stop-requires
stop-requires g c = record { safe = rw (← c.self.view_is) at c.requires.safe }
