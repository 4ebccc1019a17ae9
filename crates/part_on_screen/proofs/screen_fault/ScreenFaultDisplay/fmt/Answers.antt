use Rattle.part_on_screen.proofs.screen_fault.ScreenFaultDisplay.fmt.Goals as goal

pub returns-in-DoesNotFit-clause-writes : goal.returns-in-DoesNotFit-clause-writes
returns-in-DoesNotFit-clause-writes g c = rw (c.in-DoesNotFit.is, ← c.turned_text-turned.ensures) c.write-in-DoesNotFit.ensures.writes
