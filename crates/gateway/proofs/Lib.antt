pub mod GatewayEvents
pub mod GatewayPieces
pub mod LinkMap
