-- Each call is answered as its own contract says.
use Rattle.runs.specs.declared.run.Reply.TheVariants as reply
use Rattle.runs.specs.Runs as runs
use Rattle.runs.proofs.Serving.{done_is, mapped}
use Rattle.runs.proofs.run.serve.Goals as goal

pub returns-in-Start-clause-calls : goal.returns-in-Start-clause-calls
returns-in-Start-clause-calls g c =
    rw (c.in-Start.is, c.and.ensures, done_is c.start.result) (runs.start c.start.ensures)

pub returns-in-Open-clause-calls : goal.returns-in-Open-clause-calls
returns-in-Open-clause-calls g c =
    let answer = mapped (λ k. reply.Opened k) c.open.result c.map.result c.map.ensures.cases in
    rw (c.in-Open.is, answer) (runs.open_batch c.open.ensures)

pub returns-in-Put-clause-calls : goal.returns-in-Put-clause-calls
returns-in-Put-clause-calls g c =
    rw (c.in-Put.is, c.and-in-Put.ensures, done_is c.put.result) (runs.put c.put.ensures)

pub returns-in-Close-clause-calls : goal.returns-in-Close-clause-calls
returns-in-Close-clause-calls g c =
    rw (c.in-Close.is, c.and-in-Close.ensures, done_is c.close.result) (runs.close c.close.ensures)

pub returns-in-Drop-clause-calls : goal.returns-in-Drop-clause-calls
returns-in-Drop-clause-calls g c =
    rw (c.in-Drop.is, c.and-in-Drop.ensures, done_is c.abandon.result) (runs.drop c.abandon.ensures)

pub returns-in-Report-clause-calls : goal.returns-in-Report-clause-calls
returns-in-Report-clause-calls g c =
    let answer = mapped (λ f. reply.Figures f) c.report.result c.map-in-Report.result c.map-in-Report.ensures.cases in
    let kept = c.report.ensures.keeps in
    rw (c.in-Report.is, answer, kept.0, kept.1) (runs.report c.report.ensures.reports)
