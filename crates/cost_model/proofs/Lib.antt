mod OnRoutes
pub mod OnPools
