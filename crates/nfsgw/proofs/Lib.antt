pub mod CommandRefusals
