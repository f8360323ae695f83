use Rattle.ask_sheet.proofs.renew_sheet.Goals as goal

pub returns : goal.returns
returns c = λ i. record { running = c.renew_running.ensures i; next = c.renew_next.ensures i }
